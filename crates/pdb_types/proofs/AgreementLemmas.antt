-- Types that agree, one pair after another.
use Rattle.std.proofs.Common.{◌≡◌, inl, inr, leb, ℕ, zero, suc, ◌+◌, ◌-◌, ◌<◌, ◌≤◌, List, [], ◌∷◌, ◌++◌, length, drop}
use Rattle.std.proofs.Common.{refl, sym, ap, ◌∙◌}
use Rattle.std.proofs.Common.{add-one, arith, get_or, Bool, true, false, Option, Some, None, length-append}
use Rattle.std.proofs.Math.Seq.{drop-cons}
use Rattle.std.proofs.lemmas.List.{drop-append-le}
use Rattle.std.proofs.lemmas.Bool.{cases_Bool, leb-false, leb-true}
use Rattle.std.proofs.lemmas.List.{drop_all, length-drop}
use Rattle.pdb_tpi.specs.Table.{Table}
use Rattle.pdb_types.specs.declared.agreement.TypePair.{TypePair}
use Rattle.pdb_types.specs.Agreement.{agree_along, agree_with, next_pairs, pairs_if, with_pairs}

-- more pairs than may be read don't agree
short_with : (most : ℕ) (one other : Table) (pairs : List TypePair) (next : Option (List TypePair))
    → ((more : List TypePair) → most < length (pairs ++ more) → agree_along most one other (pairs ++ more) ≡ false)
    → most < length pairs → agree_with (agree_along most one other) pairs next ≡ false
short_with most one other pairs (Some more) rest many =
    rest more (let sum = length-append pairs more in omega arith)
short_with most one other pairs None rest many = refl

pub too_many : (most : ℕ) (one other : Table) (pairs : List TypePair) → most < length pairs
    → agree_along most one other pairs ≡ false
unfolding agree_along
too_many most one other [] many = absurd (omega (arith, many))
too_many zero one other (pair ∷ pairs) many = refl
too_many (suc most) one other (pair ∷ pairs) many =
    short_with most one other pairs (next_pairs one other pair)
    (λ more longer. too_many most one other (pairs ++ more) longer) (omega (arith, many))

pub none_agree : (most : ℕ) (one other : Table) → agree_along most one other [] ≡ true
unfolding agree_along
none_agree zero one other = refl
none_agree (suc most) one other = refl

pub next_agrees : (most : ℕ) (one other : Table) (pair : TypePair) (pairs : List TypePair)
    → agree_along (suc most) one other (pair ∷ pairs)
    ≡ agree_with (agree_along most one other) pairs (next_pairs one other pair)
unfolding agree_along
next_agrees most one other pair pairs = refl

-- ---- a list of pairs that is read from its start, and grows

with_more : (one other : Table) (most place : ℕ) (pairs new : List TypePair) (next : Option (List TypePair))
    → place ≤ length pairs → with_pairs pairs next ≡ Some new
    → agree_with (agree_along most one other) (drop place pairs) next ≡ agree_along most one other (drop place new)
with_more one other most place pairs new (Some more) within is =
    let same : pairs ++ more ≡ new = cc in
    ap (agree_along most one other)
    (sym (drop-append-le place pairs more within) ∙ ap (λ (xs : List TypePair). drop place xs) same)
with_more one other most place pairs new None within is = absurd cc

grown : (pairs new : List TypePair) (next : Option (List TypePair)) → with_pairs pairs next ≡ Some new
    → length pairs ≤ length new
grown pairs new (Some more) is =
    let same : pairs ++ more ≡ new = cc in
    let sum = sym (ap length same) ∙ length-append pairs more in omega arith
grown pairs new None is = absurd cc

without : (one other : Table) (most place : ℕ) (pairs : List TypePair) (next : Option (List TypePair))
    → with_pairs pairs next ≡ None → agree_with (agree_along most one other) (drop place pairs) next ≡ false
without one other most place pairs (Some more) is = absurd cc
without one other most place pairs None is = refl

module _ (one other : Table) (most place : ℕ) (pairs : List TypePair) (all : Bool)
    (so_far : all ≡ agree_along (most - place) one other (drop place pairs)) where
  -- what one pair decides
  next_is : (pair : TypePair) → place < length pairs → place < most → pair ≡ get_or pairs place pair
      → all ≡ agree_with (agree_along (most - (place + 1)) one other) (drop (place + 1) pairs)
      (next_pairs one other pair)
  next_is pair within left at =
      let count : most - place ≡ suc (most - (place + 1)) = omega arith in
      let here : drop place pairs ≡ pair ∷ drop (place + 1) pairs =
      rw (add-one, drop-cons pairs place pair within)
      (ap (λ (x : TypePair). x ∷ drop (suc place) pairs) (sym at)) in
      so_far ∙ rw (count, here) (next_agrees (most - (place + 1)) one other pair (drop (place + 1) pairs))

  -- types that are alike
  pub step_same : (new : List TypePair) (pair : TypePair) (are : Bool) → place < length pairs → place < most
      → pair ≡ get_or pairs place pair → with_pairs pairs (next_pairs one other pair) ≡ pairs_if are new → are ≡ true
      → all ≡ agree_along (most - (place + 1)) one other (drop (place + 1) new)
  step_same new pair are within left at is alike =
      next_is pair within left at
      ∙ with_more one other (most - (place + 1)) (place + 1) pairs new (next_pairs one other pair)
      (omega (arith, within)) (rw alike at is)

  -- types that aren't alike
  pub step_differs : (new : List TypePair) (pair : TypePair) (are : Bool) → place < length pairs → place < most
      → pair ≡ get_or pairs place pair → with_pairs pairs (next_pairs one other pair) ≡ pairs_if are new → are ≡ false
      → all ≡ false
  step_differs new pair are within left at is unlike =
      next_is pair within left at
      ∙ without one other (most - (place + 1)) (place + 1) pairs (next_pairs one other pair) (rw unlike at is)

  -- more pairs than may be read
  pub overfull : place ≤ most → most < length pairs → all ≡ false
  overfull left many = so_far
      ∙ too_many (most - place) one other (drop place pairs) (omega (arith, length-drop place pairs, left, many))

  pub at_end : length pairs ≤ place → all ≡ true
  at_end end = so_far ∙ rw (drop_all place pairs end) (none_agree (most - place) one other)

  pub ended : (count : ℕ) → most ≤ place → place ≤ most → count ≡ length pairs → all ≡ leb count most
  ended count end left is = elim (cases_Bool (leb count most)) [
    | inl few ↦ at_end (omega (arith, leb-true count most few, is, end)) ∙ sym few
    | inr many ↦ overfull left (omega (arith, leb-false count most many, is)) ∙ sym many
  ]

pub step_within : (one other : Table) (place : ℕ) (pairs new : List TypePair) (pair : TypePair) (are : Bool)
    → place < length pairs → with_pairs pairs (next_pairs one other pair) ≡ pairs_if are new → are ≡ true
    → place + 1 ≤ length new
step_within one other place pairs new pair are within is alike =
    omega (arith, within, grown pairs new (next_pairs one other pair) (rw alike at is))
