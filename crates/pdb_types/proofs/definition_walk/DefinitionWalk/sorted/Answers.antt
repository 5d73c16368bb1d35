use Rattle.std.proofs.Common.{ℕ, rules, refl}
use Rattle.std.proofs.lemmas.List.Sorted.{IsNonDecreasingBy-from_sort_by_key}
use Rattle.pdb_base.proofs.lemmas.Refused.{passed_on}
use Rattle.pdb_types.proofs.NumberLemmas.{numbered, whole_refused, whole_walked}
use Rattle.pdb_types.proofs.definition_walk.DefinitionWalk.sorted.Goals as goal

pub returns-in_err-walk-clause-walked : goal.returns-in_err-walk-clause-walked
returns-in_err-walk-clause-walked c = rw (passed_on _ _ c.from_residual.ensures.1)
    (whole_refused _ _ _ (rw c.items.ensures at c.in_err-walk.ensures.walked))

pub returns-clause-kept : goal.returns-clause-kept
returns-clause-kept c = rw (c.in_ok-walk.ensures.kept, c.of-numbering.ensures.numbering) refl

pub returns-clause-numbered : goal.returns-clause-numbered
returns-clause-numbered c = λ not.
    numbered _ _ _ _ (rw (c.in_ok-walk.ensures.kept, c.of-numbering.ensures.numbering) refl)
    (rw c.in_ok-walk.ensures.kept c.of-numbering.ensures.fits)
    (rw c.in_ok-walk.ensures.kept
    (whole_walked _ _ _ (rw c.items.ensures at (c.in_ok-walk.ensures.walked not))).1)
    c.sort_unstable_by_key.ensures.permutation
    (IsNonDecreasingBy-from_sort_by_key (λ (n : ℕ). n) _ c.sort_unstable_by_key.ensures.sorted
    (λ a r f k. search rules))

pub returns-clause-walked : goal.returns-clause-walked
returns-clause-walked c = λ not. (whole_walked _ _ _ (rw c.items.ensures at (c.in_ok-walk.ensures.walked not))).0
