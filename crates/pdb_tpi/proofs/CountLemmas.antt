-- How many lengths a walk reads.
use Rattle.std.proofs.Common.{◌≡◌, ℕ, add-zero, ◌+◌, ◌-◌, ◌≤◌, ◌<◌, Bool, true, false, leb, cond, List, length, refl}
use Rattle.std.proofs.Common.{sym, ap, ◌∙◌, arith, Ok, inl, inr}
use Rattle.std.proofs.lemmas.Bool.{cases_lt, le-ltb, lt-ltb}
use Rattle.std.proofs.lemmas.Option.{slice_get_within}
use Rattle.pdb_base.specs.Count.{one_more, after_calls}
use Rattle.pdb_base.proofs.lemmas.Count.{one_call}
use Rattle.pdb_tpi.specs.Table.{Table}
use Rattle.pdb_tpi.specs.Steps.{WalkPosition, walk, walk_rest, nth_item, steps_taken, reads_one}
use Rattle.pdb_tpi.specs.Finder.{reads_between}
use Rattle.pdb_tpi.proofs.StepLemmas.{nth_ok}

-- an item that was read is in the walk
pub nth_within : (table : Table) (n : ℕ) (item : List ℕ) → nth_item table n ≡ Ok item → n < length (walk table)
nth_within table n item e = slice_get_within (walk table) n item (nth_ok table n item e)

-- an item's length is read
pub reads_item : (stand : WalkPosition) (calls : ℕ) → steps_taken stand < length (walk stand.table)
    → reads_one stand calls ≡ one_more calls
reads_item stand calls within = rw (lt-ltb (steps_taken stand) (length (walk stand.table)) within) refl

stops_by : (test : Bool) (calls done : ℕ)
    → cond test (one_more (after_calls done calls)) (after_calls done calls) ≡ after_calls (done + cond test 1 0) calls
stops_by true calls done = one_call calls done
stops_by false calls done = ap (λ (n : ℕ). after_calls n calls) (sym (add-zero done))

-- the count after the last read of several: that of the item, or of where the walk stops
pub last_count : (start now : WalkPosition) (steps done calls : ℕ) → now.table ≡ start.table
    → steps_taken now ≡ steps_taken start + done → steps_taken now ≤ length (walk now.table) → done ≤ steps
    → (steps_taken now < length (walk now.table) → done ≡ steps)
    → reads_one now (after_calls done calls) ≡ after_calls
    (reads_between start.table (steps_taken start) (steps_taken start + steps)) calls
unfolding reads_between
last_count start now steps done calls table place reached le last =
    let to = steps_taken start + steps in
    let same : length (walk now.table) ≡ length (walk start.table) = ap (λ (t : Table). length (walk t)) table in
    elim (cases_lt (steps_taken now) (length (walk now.table))) [
      | inl within ↦
          let whole : done ≡ steps = last within in
          let there : to < length (walk start.table) = omega (arith, same, whole, place, within) in
          let reads : to - steps_taken start + 1 ≡ done + 1 = omega (arith, whole) in
          reads_item now (after_calls done calls) within ∙ one_call calls done
          ∙ rw (lt-ltb to (length (walk start.table)) there, reads) refl
      | inr stops ↦
          let rests : length (walk_rest now.table) ≡ length (walk_rest start.table) =
          ap (λ (t : Table). length (walk_rest t)) table in
          let all : length (walk start.table) ≡ steps_taken start + done = omega (arith, same, place, stops, reached) in
          let less : length (walk start.table) - steps_taken start ≡ done = omega (arith, all) in
          rw (
            le-ltb (steps_taken now) (length (walk now.table)) stops,
            rests,
            le-ltb to (length (walk start.table)) (omega (arith, all, le)),
            less,
          ) (stops_by (leb 2 (length (walk_rest start.table))) calls done)
    ]
