-- What is returned about the definitions of a table of types.
use Rattle.std.specs.Prelude.{◌≡◌, ◌⊎◌, ℕ, List, Option, Some, None, Ok, Err}
use Rattle.pdb_base.specs.Answer.{Answer, ◌>>=◌}
use Rattle.pdb_base.specs.Refusal.{Refusal, out_of_memory}
use Rattle.pdb_tpi.specs.Table.{Table}
use Rattle.pdb_types.specs.{Declaration.source_name, Definition.all_definitions, Definition.whole_table}
use Rattle.pdb_types.specs.{Size.size_of, TypeAt.type_at}
use Rattle.pdb_handles.specs.{declared.content.Records.Records, Copied.Copied, Copied.nothing_copied}
use Rattle.pdb_handles.specs.{Copied.text_copied, Fault.fault_of_refusal, Fault.no_value, Fault.not_open}
use Rattle.pdb_handles.specs.Found.{Found, value_or_fault}

-- what is said of the definitions of a table, which have to be found in one walk along it
abbrev pub definitions_say : {A : Type 0} → (Table → Answer A) → Records → Answer A
definitions_say says records = whole_table records.types.table >>= says

-- the indexes of all definitions of a name
abbrev pub definitions_named : List ℕ → Records → Answer (List ℕ)
definitions_named name records = definitions_say (λ table. Ok (all_definitions table (source_name name))) records

-- a value that was found; or it was not found, or refused, and then the variable stays as it was
abbrev pub found_told : {A : Type 0} → A → Answer (Option A) → Found A
found_told old (Ok value) = value_or_fault no_value old value
found_told old (Err refusal) = record { fault = fault_of_refusal refusal; value = old }

-- the same for what a handle holds, if it holds what the call is about, and else `not_open`
abbrev pub found_in : {A B : Type 0} → B → (A → Answer (Option B)) → Option A → Found B
found_in old answer (Some held) = found_told old (answer held)
found_in old answer None = record { fault = not_open; value = old }

-- What is meant was found; or memory ran out, and the variable stays as it was.
abbrev pub FindsOrLacks : {A : Type 0} → Found A → A → Found A → Type 0
FindsOrLacks done old meant = (done ≡ meant) ⊎ (done ≡ record { fault = fault_of_refusal out_of_memory; value = old })

-- A refusal is that of memory, of a walk along a table, or of a type in it or of its size.
abbrev pub IsOfTable : Table → Refusal → Type 0
IsOfTable table refusal =
    (refusal ≡ out_of_memory) ⊎ (whole_table table ≡ Err refusal)
    ⊎ ((index : ℕ) × ((type_at table index ≡ Err refusal) ⊎ (size_of table index ≡ Err refusal)))

-- A text is written; or the fault is one of these, and nothing is written.
abbrev pub WritesText : Table → List ℕ → Copied ℕ → Type 0
WritesText table room told =
    ((text : List ℕ) × (told ≡ text_copied room text))
    ⊎ ((refusal : Refusal) × IsOfTable table refusal × (told ≡ nothing_copied (fault_of_refusal refusal) room))

-- The same for the table that a handle holds; nothing is written if it holds none.
abbrev pub WritesTextOf : Option Records → List ℕ → Copied ℕ → Type 0
WritesTextOf (Some records) room told = WritesText records.types.table room told
WritesTextOf None room told = told ≡ nothing_copied not_open room
