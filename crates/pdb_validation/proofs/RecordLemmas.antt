-- A walk over the records of a table that adds the mismatches of each.
use Rattle.std.proofs.Common.{◌≡◌, ℕ, suc, ◌+◌, ◌-◌, ◌≤◌, List, [], ◌++◌, length, drop, refl, ap, ◌∙◌, arith}
use Rattle.std.proofs.Common.{Option, Some, None, Ok, Err}
use Rattle.std.proofs.Math.Seq.{drop-cons}
use Rattle.std.proofs.Math.ListN.{drop_of_length-le}
use Rattle.std.proofs.lemmas.Option.{get_or_from_slice_get}
use Rattle.pdb_base.specs.Answer.{Answer}
use Rattle.pdb_base.specs.declared.error.Error.{Error}
use Rattle.pdb_base.proofs.lemmas.Collected.{ok_is}
use Rattle.pdb_tpi.specs.Place.{IsPlace}
use Rattle.pdb_tpi.specs.Steps.{WalkPosition, IsStep, steps_taken, walk}
use Rattle.pdb_tpi.specs.Table.{Table}
use Rattle.pdb_tpi.proofs.PositionLemmas.{stands_at}
use Rattle.pdb_tpi.proofs.StepLemmas.{step_some, step_none, step_err}
use Rattle.pdb_validation.specs.Mismatch.{asked_of, with_further}
use Rattle.pdb_validation.specs.Records.{at_byte, both_mismatches, mismatches_from, record_byte, record_mismatches}
use Rattle.pdb_validation.specs.Records.{size_inconsistency, table_mismatches}
use Rattle.pdb_validation.specs.declared.inconsistency.Inconsistency.{Inconsistency}
use Rattle.pdb_validation.specs.declared.mismatch.Extent.{Extent}
use Rattle.pdb_validation.specs.declared.mismatch.Mismatch.{Mismatch}
use Rattle.pdb_validation.proofs.MismatchLemmas.{asked_end, further_more, told}

abbrev pub OfItem : Type 0
OfItem = ℕ → List ℕ → Option Inconsistency

-- the mismatches of the records that an iterator has still to give
abbrev left_mismatches : ℕ → Table → OfItem → WalkPosition → List Mismatch
left_mismatches stream table of_item stand =
    mismatches_from (record_mismatches stream table of_item) stand.index (drop (steps_taken stand) (walk stand.table))

-- The mismatches of the records before which the iterator stands were added.
pub record IsAdding (extent : Extent) (stream : ℕ) (of_item : OfItem) (table : Table) (kept : List Mismatch)
    (stand : WalkPosition) : Type 0 where
  pub same : stand.table ≡ table
  pub least : stand.table.header.minimum_index ≤ stand.index
  pub left : with_further extent kept (left_mismatches stream table of_item stand)
      ≡ with_further extent [] (table_mismatches stream of_item table)

pub adding_none : (extent : Extent) (stream : ℕ) (of_item : OfItem) (table : Table) (kept : List Mismatch)
    (stand : WalkPosition) → kept ≡ [] → stand ≡ record { table = table; index = table.header.minimum_index }
    → IsAdding extent stream of_item table kept stand
adding_none extent stream of_item table kept stand none is =
    let all : table.header.minimum_index - table.header.minimum_index ≡ 0 = omega arith in
    rw (none, is) (record { same = refl; least = omega arith; left = rw all refl })

abbrev said : Option Inconsistency → Answer (Option Inconsistency)
said what = Ok what

left_more : {X : Type 0} (stream : ℕ) (of_item : OfItem) (table : Table) (seen : X → ℕ × List ℕ) (old : WalkPosition)
    (x : X) (new : WalkPosition) → old.table.header.minimum_index ≤ old.index → IsStep seen old (Ok (Some x)) new
    → left_mismatches stream table of_item old
    ≡ record_mismatches stream table of_item (seen x).0 (seen x).1 ++ left_mismatches stream table of_item new
left_more stream of_item table seen old x new least step =
    let given = step_some seen old x new step in
    let n = steps_taken old in
    let here = get_or_from_slice_get (walk old.table) n (seen x).1 (seen x).1 given.there in
    let next : suc n ≡ old.index + 1 - old.table.header.minimum_index = omega arith in
    rw (given.moved, drop-cons (walk old.table) n (seen x).1 given.within, here, ← given.index, ← next) refl

-- the mismatches of one record more
pub adding_more : {X : Type 0} (extent : Extent) (stream : ℕ) (of_item : OfItem) (table : Table)
    (seen : X → ℕ × List ℕ) (kept now : List Mismatch) (old : WalkPosition) (x : X) (new : WalkPosition)
    (what : Option Inconsistency) (index byte : ℕ) (bytes : List ℕ)
    → IsAdding extent stream of_item table kept old → IsStep seen old (Ok (Some x)) new
    → index ≡ old.index → IsPlace old.table old.index byte
    → said (of_item (seen x).0 (seen x).1) ≡ Ok what → bytes ≡ (seen x).1
    → told (with_further extent kept (both_mismatches (at_byte stream index byte) what (size_inconsistency bytes)))
    ≡ Ok now
    → IsAdding extent stream of_item table now new
adding_more extent stream of_item table seen kept now old x new what index byte bytes are step at place says of added =
    let given = step_some seen old x new step in
    let begins : byte ≡ record_byte table old.index = stands_at old.table old.index byte place
    ∙ ap (λ (t : Table). record_byte t old.index) are.same in
    let is = ok_is (of_item (seen x).0 (seen x).1) what says in
    let same : record_mismatches stream table of_item (seen x).0 (seen x).1
    ≡ both_mismatches (at_byte stream index byte) what (size_inconsistency bytes) =
    rw (at, begins, of, ← is, given.index) refl in
    record {
      same = rw given.moved are.same;
      least = rw given.moved (omega (arith, are.least));
      left = further_more extent kept _ (both_mismatches (at_byte stream index byte) what (size_inconsistency bytes))
          (left_mismatches stream table of_item new) now _ are.left
          (left_more stream of_item table seen old x new are.least step ∙ ap (λ (xs : List Mismatch). xs
          ++ left_mismatches stream table of_item new) same) added;
    }

adding_past : (extent : Extent) (stream : ℕ) (of_item : OfItem) (table : Table) (kept : List Mismatch)
    (stand : WalkPosition) → IsAdding extent stream of_item table kept stand
    → length (walk stand.table) ≤ steps_taken stand
    → told (asked_of extent (table_mismatches stream of_item table)) ≡ Ok kept
adding_past extent stream of_item table kept stand are past =
    asked_end extent kept (left_mismatches stream table of_item stand) (table_mismatches stream of_item table) are.left
    (rw (drop_of_length-le (walk stand.table) past) refl)

-- behind the last record
pub adding_ended : {X : Type 0} (extent : Extent) (stream : ℕ) (of_item : OfItem) (table : Table)
    (seen : X → ℕ × List ℕ) (kept : List Mismatch) (old new : WalkPosition)
    → IsAdding extent stream of_item table kept old → IsStep seen old (Ok None) new
    → told (asked_of extent (table_mismatches stream of_item table)) ≡ Ok kept
adding_ended extent stream of_item table seen kept old new are step =
    adding_past extent stream of_item table kept old are (step_none seen old new step).0

pub adding_stopped : {X : Type 0} (extent : Extent) (stream : ℕ) (of_item : OfItem) (table : Table)
    (seen : X → ℕ × List ℕ) (kept : List Mismatch) (old new : WalkPosition) (e : Error)
    → IsAdding extent stream of_item table kept old → IsStep seen old (Err e) new
    → told (asked_of extent (table_mismatches stream of_item table)) ≡ Ok kept
adding_stopped extent stream of_item table seen kept old new e are step =
    adding_past extent stream of_item table kept old are (step_err seen old new e step).past
