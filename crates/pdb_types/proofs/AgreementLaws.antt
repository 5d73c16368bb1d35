-- Types that agree are alike, with all that is within them.
use Rattle.std.proofs.Common.{◌≡◌, ℕ, zero, suc, List, [], ◌∷◌, ◌++◌, refl, true, Option, Some, None, length}
use Rattle.std.proofs.lemmas.List.Elements.{All-cons, All-contains, All-contains_itself, All-nil, All-weaker}
use Rattle.std.proofs.lemmas.List.Elements.{Contains-append_left, Contains-append_right, Contains-push}
use Rattle.std.specs.List.{All, Contains}
use Rattle.pdb_base.specs.declared.index.TypeIndex.{TypeIndex}
use Rattle.pdb_tpi.specs.Table.{Table}
use Rattle.pdb_types.specs.declared.agreement.TypePair.{TypePair}
use Rattle.pdb_types.specs.Agreement.{Agree, AreAgreed, IsAgreed, agree_along, agree_with, all_agree, do_types_agree}
use Rattle.pdb_types.specs.Agreement.{most_read, next_pairs, pairs_of}

later : {X : Type 0} (first : X) (rest : List X) (one : X) → Contains rest one → Contains (first ∷ rest) one
later first rest one there = Contains-append_right (first ∷ []) rest one there

front_of : (P : TypePair → Type 0) (xs ys : List TypePair) → All P (xs ++ ys) → All P xs
front_of P xs ys all = All-weaker (Contains xs) P (λ x there. All-contains P (xs ++ ys) x all
    (Contains-append_left xs ys x there)) xs (All-contains_itself xs)

end_of : (P : TypePair → Type 0) (xs ys : List TypePair) → All P (xs ++ ys) → All P ys
end_of P xs ys all = All-weaker (Contains ys) P (λ x there. All-contains P (xs ++ ys) x all
    (Contains-append_right xs ys x there)) ys (All-contains_itself ys)

-- the pairs within one are among more pairs, too
among_more : (one other : Table) (first : TypePair) (all : List TypePair) (pair : TypePair)
    → IsAgreed one other all pair → IsAgreed one other (first ∷ all) pair
among_more one other first all pair is =
    (is.0, is.1, All-weaker (Contains all) (Contains (first ∷ all)) (later first all) is.0 is.2)

with_first : (one other : Table) (pair : TypePair) (pairs more : List TypePair) → next_pairs one other pair ≡ Some more
    → Agree one other (pairs ++ more) → Agree one other (pair ∷ pairs)
with_first one other pair pairs more is agree =
    let all = agree.0 in
    let lifted = All-weaker (Contains all) (Contains (pair ∷ all)) (later pair all) in
    let here : Contains (pair ∷ all) pair = Contains-append_left (pair ∷ []) all pair (Contains-push [] pair) in (
      pair ∷ all,
      All-cons (Contains (pair ∷ all)) pair pairs here (lifted pairs (front_of (Contains all) pairs more agree.1)),
      All-cons (IsAgreed one other (pair ∷ all)) pair all
          (more, is, lifted more (end_of (Contains all) pairs more agree.1))
          (All-weaker (IsAgreed one other all) (IsAgreed one other (pair ∷ all)) (among_more one other pair all) all
          agree.2),
    )

with_next : (most : ℕ) (one other : Table) (pair : TypePair) (pairs : List TypePair) (next : Option (List TypePair))
    → ((more : List TypePair) → agree_along most one other (pairs ++ more) ≡ true → Agree one other (pairs ++ more))
    → next_pairs one other pair ≡ next → agree_with (agree_along most one other) pairs next ≡ true
    → Agree one other (pair ∷ pairs)
with_next most one other pair pairs (Some more) rest is agree =
    with_first one other pair pairs more is (rest more agree)
with_next most one other pair pairs None rest is agree = absurd cc

along_agree : (most : ℕ) (one other : Table) (pairs : List TypePair) → agree_along most one other pairs ≡ true
    → Agree one other pairs
unfolding agree_along
along_agree most one other [] agree = ([], All-nil (Contains []), All-nil (IsAgreed one other []))
along_agree zero one other (pair ∷ pairs) agree = absurd cc
along_agree (suc most) one other (pair ∷ pairs) agree =
    with_next most one other pair pairs (next_pairs one other pair) (λ more. along_agree most one other (pairs ++ more))
    refl agree

of_pairs : (one other : Table) (compared : Option (List TypePair)) → all_agree one other compared ≡ true
    → (pairs : List TypePair) × (compared ≡ Some pairs) × Agree one other pairs
of_pairs one other (Some pairs) agree = (pairs, refl, along_agree (most_read (length pairs)) one other pairs agree)
of_pairs one other None agree = absurd cc

pub types_agree : (one other : Table) (firsts seconds : List TypeIndex) → do_types_agree one other firsts seconds ≡ true
    → AreAgreed one other firsts seconds
unfolding do_types_agree
types_agree one other firsts seconds agree = of_pairs one other (pairs_of firsts seconds) agree
