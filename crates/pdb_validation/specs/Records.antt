-- What is inconsistent in the records of a table of types or of ids.
use Rattle.std.specs.Prelude.{ℕ, ◌+◌, ◌-◌, ◌%◌, ◌==◌, Bool, false, ◌&&◌, not, List, [], ◌∷◌, ◌++◌, length, Option, Some}
use Rattle.std.specs.Prelude.{Ok, Err}
use Rattle.std.specs.Bool.{then_some}
use Rattle.std.specs.Option.{option_map, option_to_list}
use Rattle.pdb_base.specs.Answer.{Answer}
use Rattle.pdb_base.specs.Refusal.{Refusal, unimplemented_type_kind}
use Rattle.pdb_records.specs.Fields.{field_list_leaf}
use Rattle.pdb_records.specs.Shape.{pointer_leaf}
use Rattle.pdb_tpi.specs.OpenTable.{item_position}
use Rattle.pdb_tpi.specs.Record.{id_of, kind_of, type_of}
use Rattle.pdb_tpi.specs.Steps.{walk}
use Rattle.pdb_tpi.specs.Table.{Table}
use Rattle.pdb_validation.specs.References.{first_from, id_reference_from, references_of}
use Rattle.pdb_validation.specs.declared.inconsistency.Inconsistency.{Inconsistency}
use Rattle.pdb_validation.specs.declared.inconsistency.Inconsistency.TheVariants.{KindNotRead, RecordUnaligned}
use Rattle.pdb_validation.specs.declared.inconsistency.Inconsistency.TheVariants.{ReferenceNotBelow}
use Rattle.pdb_validation.specs.declared.mismatch.Mismatch.{Mismatch}

-- ---- one record

-- whether this error of a record is for its kind alone, which is then not read. The kinds of pointers and of field
-- lists are read, and so such an error of one of these is for what it holds.
abbrev pub is_not_read : ℕ → Refusal → Bool
is_not_read kind (unimplemented_type_kind other) =
    (other == kind && not (kind == pointer_leaf)) && not (kind == field_list_leaf)
is_not_read kind refusal = false

-- what is inconsistent in a record of a kind: an index to which it refers, which `wrong` gives, or the kind
abbrev pub value_inconsistency : {A : Type 0} → ℕ → (A → Option ℕ) → Answer A → Option Inconsistency
value_inconsistency kind wrong (Ok value) = option_map (λ index. ReferenceNotBelow index) (wrong value)
value_inconsistency kind wrong (Err refusal) = then_some (is_not_read kind refusal) (KindNotRead kind)

-- A type refers to indexes below its own.
unfoldable pub type_inconsistency : ℕ → List ℕ → Option Inconsistency
type_inconsistency index item =
    value_inconsistency (kind_of item) (λ value. first_from index (references_of value)) (type_of index item)

-- An id refers to ids below its own, and to types that there are, whose indexes are below `types`.
unfoldable pub id_inconsistency : ℕ → ℕ → List ℕ → Option Inconsistency
id_inconsistency types index item = value_inconsistency (kind_of item) (id_reference_from types index) (id_of item)

-- A record takes a multiple of four bytes, its length among them.
abbrev pub size_inconsistency : List ℕ → Option Inconsistency
size_inconsistency item = then_some (not ((2 + length item) % 4 == 0)) RecordUnaligned

-- ---- all records

-- the byte of its stream at which the record of an index begins, behind the header and the records before it
abbrev pub record_byte : Table → ℕ → ℕ
record_byte table index = item_position table (index - table.header.minimum_index)

-- a mismatch at a record of a stream, which begins at a byte
abbrev pub at_byte : ℕ → ℕ → ℕ → Inconsistency → Mismatch
at_byte stream index byte what = record { stream = Some stream; index = Some index; byte = Some byte; what = what }

-- the mismatches of two things that may be inconsistent
abbrev pub both_mismatches : (Inconsistency → Mismatch) → Option Inconsistency → Option Inconsistency → List Mismatch
both_mismatches mismatch one other =
    option_to_list (option_map mismatch one) ++ option_to_list (option_map mismatch other)

-- the mismatches of the record of an index: what `of_item` says, and its size
abbrev pub record_mismatches : ℕ → Table → (ℕ → List ℕ → Option Inconsistency) → ℕ → List ℕ → List Mismatch
record_mismatches stream table of_item index item =
    both_mismatches (at_byte stream index (record_byte table index)) (of_item index item) (size_inconsistency item)

-- the mismatches of records from one of an index on
abbrev pub mismatches_from : (ℕ → List ℕ → List Mismatch) → ℕ → List (List ℕ) → List Mismatch
mismatches_from of_record index [] = []
mismatches_from of_record index (item ∷ items) = of_record index item ++ mismatches_from of_record (index + 1) items

-- the mismatches of the records of a table in a stream
abbrev pub table_mismatches : ℕ → (ℕ → List ℕ → Option Inconsistency) → Table → List Mismatch
table_mismatches stream of_item table =
    mismatches_from (record_mismatches stream table of_item) table.header.minimum_index (walk table)
