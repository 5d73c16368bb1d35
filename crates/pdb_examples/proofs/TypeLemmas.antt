-- What a step along the types adds to those of a name.
use Rattle.std.proofs.Common.{◌≡◌, ℕ, suc, ◌+◌, ◌-◌, ◌≤◌, List, [], ◌∷◌, drop, ◌++◌, refl, sym, ap, ◌∙◌}
use Rattle.std.proofs.Common.{arith, Bool, true, false, cond, Ok, Some, None}
use Rattle.std.proofs.Math.Seq.{drop-cons}
use Rattle.std.proofs.lemmas.List.{append_assoc}
use Rattle.std.proofs.Math.ListN.{drop_of_length-le}
use Rattle.std.proofs.lemmas.Option.{get_or_from_slice_get}
use Rattle.pdb_container.specs.Record.{type_of}
use Rattle.pdb_container.specs.Steps.{WalkPosition, walk, steps_taken, IsStep}
use Rattle.pdb_container.specs.ItemTable.{Table}
use Rattle.pdb_tpi.proofs.StepLemmas.{step_some, step_none}
use Rattle.pdb_examples.specs.Uses.{has_name, indexes_named, types_in}

-- the types of a name that an iterator has still to give
abbrev pub still_named : List ℕ → WalkPosition → List ℕ
still_named name stand = indexes_named name stand.index (drop (steps_taken stand) (walk stand.table))

-- a new one has all of them to give
pub all_named : (name : List ℕ) (table : Table)
    → types_in name table ≡ still_named name (record { table = table; index = table.header.minimum_index })
all_named name table = let none : table.header.minimum_index - table.header.minimum_index ≡ 0 = omega arith in
    rw none refl

-- the item of a step comes first, if it is named so, and then those that are left
pub still_more : {X : Type 0} (seen : X → ℕ × List ℕ) (name : List ℕ) (old : WalkPosition) (x : X) (new : WalkPosition)
    → old.table.header.minimum_index ≤ old.index → IsStep seen old (Ok (Some x)) new
    → still_named name old ≡ cond (has_name name (type_of (seen x).0 (seen x).1)) ((seen x).0 ∷ still_named name new)
    (still_named name new)
still_more seen name old x new least step =
    let given = step_some seen old x new step in
    let n = steps_taken old in
    let here = get_or_from_slice_get (walk old.table) n (seen x).1 (seen x).1 given.there in
    let next : suc n ≡ old.index + 1 - old.table.header.minimum_index = omega arith in
    rw (given.moved, drop-cons (walk old.table) n (seen x).1 given.within, here, ← given.index, ← next) refl

-- so an item of that name is one more that was found
pub found_more : {X : Type 0} (seen : X → ℕ × List ℕ) (name : List ℕ) (old : WalkPosition) (x : X) (new : WalkPosition)
    (all found : List ℕ) → old.table.header.minimum_index ≤ old.index → IsStep seen old (Ok (Some x)) new
    → all ≡ found ++ still_named name old → has_name name (type_of (seen x).0 (seen x).1) ≡ true
    → all ≡ (found ++ (seen x).0 ∷ []) ++ still_named name new
found_more seen name old x new all found least step so_far is =
    let more = still_more seen name old x new least step in
    so_far ∙ ap (λ (l : List ℕ). found ++ l) (more
    ∙ ap (λ (b : Bool). cond b ((seen x).0 ∷ still_named name new) (still_named name new)) is)
    ∙ sym (append_assoc found ((seen x).0 ∷ []) (still_named name new))

-- and another is none
pub found_same : {X : Type 0} (seen : X → ℕ × List ℕ) (name : List ℕ) (old : WalkPosition) (x : X) (new : WalkPosition)
    (all found : List ℕ) → old.table.header.minimum_index ≤ old.index → IsStep seen old (Ok (Some x)) new
    → all ≡ found ++ still_named name old → has_name name (type_of (seen x).0 (seen x).1) ≡ false → all ≡ found
    ++ still_named name new
found_same seen name old x new all found least step so_far is =
    let more = still_more seen name old x new least step in
    so_far ∙ ap (λ (l : List ℕ). found ++ l) (more
    ∙ ap (λ (b : Bool). cond b ((seen x).0 ∷ still_named name new) (still_named name new)) is)

-- the iterator never stands before the first item
pub least_more : {X : Type 0} (seen : X → ℕ × List ℕ) (old : WalkPosition) (x : X) (new : WalkPosition)
    → old.table.header.minimum_index ≤ old.index → IsStep seen old (Ok (Some x)) new
    → new.table.header.minimum_index ≤ new.index
least_more seen old x new least step = rw (step_some seen old x new step).moved (omega (arith, least))

-- at the end none is left
pub none_still : {X : Type 0} (seen : X → ℕ × List ℕ) (name : List ℕ) (old new : WalkPosition)
    → IsStep seen old (Ok None) new → still_named name old ≡ []
none_still seen name old new step = rw (drop_of_length-le (walk old.table) (step_none seen old new step).0) refl
