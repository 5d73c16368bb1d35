-- Lists in records, step by step.
use Rattle.std.proofs.Common.{◌≡◌, ℕ, ◌<◌, List, [], ◌∷◌, ◌++◌, length, sym, ap, ◌∙◌, Result, Ok, Err}
use Rattle.pdb_base.specs.declared.error.Error.{Error}
use Rattle.pdb_base.proofs.lemmas.Collected.{ok}
use Rattle.pdb_records.specs.Row.{Assigns, Stops, row}
use Rattle.pdb_records.specs.Agreement.{Agrees}
use Rattle.pdb_records.specs.ToEnd.{TakesBytes, to_end}
use Rattle.pdb_records.proofs.RowLaws.{rows}
use Rattle.pdb_records.proofs.StepLemmas.{behind, to_end_step, to_end_ends}
use Rattle.pdb_records.proofs.TakesLemmas.{TakesTwo, word_row_long, two_takes}
use Rattle.pdb_values.specs.declared.method.MethodListEntry.{MethodListEntry}
use Rattle.pdb_records.specs.Rows.{listed_method_row}

-- ---- methods in a list

pub methods_agree : Agrees (row listed_method_row) (Assigns listed_method_row) (Stops listed_method_row)
methods_agree = rows listed_method_row

pub method_long : TakesTwo (Assigns listed_method_row)
unfolding listed_method_row
method_long = word_row_long listed_method_row tt

pub method_takes : TakesBytes (Assigns listed_method_row)
method_takes = two_takes (Assigns listed_method_row) method_long

-- what a refused call answers is its cause
abbrev pub refused : {X : Type 0} → Error → Result X Error
refused e = Err e

pub cause_is : {X : Type 0} (cause other : Error) → refused {X = X} cause ≡ refused other → cause ≡ other
cause_is cause other is = cc

-- what one method takes is gone
pub method_shorter : (bytes : List ℕ) (x : MethodListEntry) (rest : List ℕ) → row listed_method_row bytes ≡ Ok (x, rest)
    → length rest < length bytes
method_shorter bytes x rest is = method_takes bytes x rest (methods_agree.found bytes x rest is)

-- nothing is left
pub methods_end : (before : List MethodListEntry) (bytes : List ℕ) → bytes ≡ []
    → behind before (to_end (row listed_method_row) bytes) ≡ Ok (before, bytes)
methods_end before bytes none = ap (λ (b : List ℕ). behind before (to_end (row listed_method_row) b)) none
    ∙ to_end_ends (row listed_method_row) before ∙ ap (λ (b : List ℕ). ok (before, b)) (sym none)

pub methods_step : (before : List MethodListEntry) (bytes : List ℕ) (x : MethodListEntry) (rest : List ℕ)
    → row listed_method_row bytes ≡ Ok (x, rest)
    → behind before (to_end (row listed_method_row) bytes)
    ≡ behind (before ++ x ∷ []) (to_end (row listed_method_row) rest)
methods_step = to_end_step (row listed_method_row) (Assigns listed_method_row)
    (Stops listed_method_row) methods_agree method_takes
