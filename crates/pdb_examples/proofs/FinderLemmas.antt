-- What a finder knows that is shown a walk.
use Rattle.std.proofs.Common.{◌≡◌, inl, inr, ℕ, ◌+◌, ◌-◌, ◌/◌, ◌≤◌, ◌<◌, List, length, refl, sym, ap, subst, ◌∙◌, arith}
use Rattle.std.proofs.Common.{Ok, Some}
use Rattle.std.proofs.lemmas.Bool.{cases_lt}
use Rattle.std.proofs.lemmas.Bool.Decides.{nat_tests}
use Rattle.pdb_container.specs.Finder.{FinderState, first_of_block, known_when_new, known_after}
use Rattle.pdb_container.specs.Steps.{WalkPosition, IsStep, nth_item, steps_taken, walk}
use Rattle.pdb_container.specs.ItemTable.{Table}
use Rattle.pdb_tpi.proofs.FinderLemmas.{find_known}
use Rattle.pdb_tpi.proofs.StepLemmas.{step_some}
use Rattle.pdb_examples.specs.Uses.{FindsAll}

-- A finder knows each block that begins up to where an iterator over its table stands.
pub record IsShown (table : Table) (stand : WalkPosition) (finder : FinderState) : Type 0 where
  pub stands : stand.table ≡ table
  pub same : finder.table ≡ table
  pub least : table.header.minimum_index ≤ stand.index
  pub blocks : (block : ℕ) → first_of_block table block < table.header.maximum_index
      → first_of_block table block ≤ stand.index
      → block < finder.known

first_shown : (table : Table)
    → IsShown table (record { table = table; index = table.header.minimum_index })
    (record { table = table; known = known_when_new table })
first_shown table = record {
  stands = refl;
  same = refl;
  least = omega arith;
  blocks = λ block below reached. grind (arith, nat_tests);
}

pub shown_first : (table : Table) (stand : WalkPosition) (finder : FinderState)
    → stand ≡ record { table = table; index = table.header.minimum_index }
    → finder ≡ record { table = table; known = known_when_new table } → IsShown table stand finder
shown_first table stand finder stands is =
    let new : FinderState = record { table = table; known = known_when_new table } in
    subst (λ (s : WalkPosition). IsShown table s finder) (sym stands)
    (subst (IsShown table (record { table = table; index = table.header.minimum_index })) (sym is) (first_shown table))

known_grows : (table : Table) (known i : ℕ) → known ≤ known_after table known i
known_grows table known i = grind (arith, nat_tests)

known_next : (table : Table) (known i : ℕ) → i ≡ first_of_block table known → i < table.header.maximum_index
    → known_after table known i ≡ known + 1
known_next table known i is below = grind (arith, nat_tests)

-- another step shows the block that begins where it ends, if there is one
block_more : (table : Table) (stand : WalkPosition) (finder : FinderState) → IsShown table stand finder
    → (block : ℕ) → first_of_block table block < table.header.maximum_index
    → first_of_block table block ≤ stand.index + 1
    → block < known_after table finder.known (stand.index + 1)
block_more table stand finder shown block below reached = elim (cases_lt stand.index (first_of_block table block)) [
  | inl past ↦
      let least = shown.least in
      let before : block - 1 < finder.known = shown.blocks (block - 1) (omega arith) (omega arith) in
      elim (cases_lt block finder.known) [
        | inl known ↦ omega (arith, known_grows table finder.known (stand.index + 1))
        | inr unknown ↦
            let first : stand.index + 1 ≡ first_of_block table finder.known = omega arith in
            omega (arith, known_next table finder.known (stand.index + 1) first (omega arith))
      ]
  | inr within ↦
      omega (arith, shown.blocks block below within, known_grows table finder.known (stand.index + 1))
]

pub shown_more : {X : Type 0} (seen : X → ℕ × List ℕ) (table : Table) (old new : WalkPosition) (x : X)
    (finder updated : FinderState) → IsShown table old finder → IsStep seen old (Ok (Some x)) new
    → updated ≡ record { table = finder.table; known = known_after finder.table finder.known new.index }
    → IsShown table new updated
shown_more seen table old new x finder updated shown step is =
    let next : new.index ≡ old.index + 1 = ap (λ (s : WalkPosition). s.index) (step_some seen old x new step).moved in
    let least = shown.least in
    let known : updated.known ≡ known_after table finder.known (old.index + 1) =
    ap (λ (f : FinderState). f.known) is ∙ ap (λ (t : Table). known_after t finder.known new.index) shown.same
    ∙ ap (known_after table finder.known) next in
    record {
      stands = step.stays ∙ shown.stands;
      same = ap (λ (f : FinderState). f.table) is ∙ shown.same;
      least = omega arith;
      blocks = λ block below reached. rw known (block_more table old finder shown block below (omega arith));
    }

-- behind the last item the finder finds all
pub shown_whole : (table : Table) (stand : WalkPosition) (finder : FinderState) → IsShown table stand finder
    → length (walk stand.table) ≤ steps_taken stand → FindsAll table finder
shown_whole table stand finder shown past =
    let over : length (walk table) ≤ stand.index - table.header.minimum_index =
    subst (λ (t : Table). length (walk t) ≤ stand.index - t.header.minimum_index) shown.stands past in
    record {
      same = shown.same;
      found = λ n within counted.
          let i : ℕ = table.header.minimum_index + n in
          let place : i - table.header.minimum_index ≡ n = omega arith in
          let known : n / 8 < finder.known = shown.blocks (n / 8) (omega arith) (omega arith) in
          find_known table finder.known i table.header.minimum_index refl (omega arith) counted
          (omega (arith, known, place)) ∙ ap (nth_item table) place;
    }
