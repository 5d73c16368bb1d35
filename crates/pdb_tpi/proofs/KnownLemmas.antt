-- The blocks that are known are the most that were shown in their order.
use Rattle.std.proofs.Common.{◌≡◌, ℕ, suc, ◌+◌, ◌-◌, ◌<◌, ◌&&◌, true, false, ltb, eqb, List, [], ◌∷◌, ◌++◌, map, refl}
use Rattle.std.proofs.Common.{sym, ap, subst, ◌∙◌, arith, inl, inr}
use Rattle.std.specs.List.{fold, range_with_len}
use Rattle.std.proofs.lemmas.Bool.{and_from, and_parts, cases_Bool, cases_lt, eq-eqb, eqb-true, false≢true, lt-ltb}
use Rattle.std.proofs.lemmas.Bool.{ltb-true}
use Rattle.std.proofs.lemmas.List.{append_assoc}
use Rattle.pdb_tpi.specs.Table.{Table}
use Rattle.pdb_tpi.specs.Finder.{first_of_block, known_after, known_of, StandIn, AreShown, IsKnown}

-- what stands in a list stands in a longer one
stand_behind : (firsts before shown : List ℕ) → StandIn firsts shown → StandIn firsts (before ++ shown)
stand_behind [] before shown in_order = tt
stand_behind (first ∷ firsts) before shown in_order = (
  before ++ in_order.0,
  in_order.1,
  ap (λ (s : List ℕ). before ++ s) in_order.2
      ∙ sym (append_assoc before in_order.0 (first ∷ in_order.1)),
  in_order.3,
)

stand_in_tail : (firsts before behind shown : List ℕ) (i first : ℕ) → StandIn firsts behind → i ∷ shown ≡ before
    ++ first ∷ behind → StandIn firsts shown
stand_in_tail firsts [] behind shown i first in_order is = let same : shown ≡ behind = cc in rw same in_order
stand_in_tail firsts (b ∷ before) behind shown i first in_order is =
    let same : shown ≡ before ++ first ∷ behind = cc in
    let one : before ++ first ∷ behind ≡ before ++ (first ∷ []) ++ behind =
    sym (append_assoc before (first ∷ []) behind) in
    rw (same, one) (stand_behind firsts (before ++ first ∷ []) behind in_order)

-- the first indexes of the blocks from one on
abbrev firsts_from : Table → ℕ → ℕ → List ℕ
firsts_from table old known = map (first_of_block table) (range_with_len old (known - old))

firsts_more : (table : Table) (old known : ℕ) → old < known → firsts_from table old known ≡ first_of_block table old
    ∷ firsts_from table (old + 1) known
firsts_more table old known more = let count : known - old ≡ suc (known - (old + 1)) = omega arith in rw count refl

no_place : (before behind : List ℕ) (first : ℕ) → [] ≡ before ++ first ∷ behind → ⊥
no_place [] behind first is = cc
no_place (b ∷ before) behind first is = cc

-- more blocks begin with the first of them
shown_first : (table : Table) (old known : ℕ) (shown : List ℕ) → AreShown table old shown known → old < known
    → StandIn (first_of_block table old ∷ firsts_from table (old + 1) known) shown
shown_first table old known shown are more =
    subst (λ (firsts : List ℕ). StandIn firsts shown) (firsts_more table old known more) are.in_order

shown_with : (table : Table) (old known : ℕ) (shown : List ℕ) → old < known
    → StandIn (first_of_block table old ∷ firsts_from table (old + 1) known) shown
    → StandIn (firsts_from table old known) shown
shown_with table old known shown more in_order = rw (firsts_more table old known more) in_order

-- ---- one more iterator

known_here : (table : Table) (old i : ℕ) (shown : List ℕ) (known : ℕ) → i ≡ first_of_block table old
    → i < table.header.maximum_index → IsKnown table (old + 1) shown known → IsKnown table old (i ∷ shown) known
known_here table old i shown known is below ih =
    let more = ih.reached.more in
    record {
      reached = record {
        more = omega arith;
        below = λ block from to. elim (cases_lt old block) [
          | inl later ↦ ih.reached.below block (omega (arith, later)) to
          | inr here ↦ omega (arith, is, below, from, here)
        ];
        in_order = shown_with table old known (i ∷ shown) (omega arith)
            ([], shown, ap (λ (n : ℕ). n ∷ shown) is, ih.reached.in_order);
      };
      most = λ other are. elim (cases_lt old other) [
        | inr few ↦ omega (arith, few)
        | inl some ↦
            let first = shown_first table old other (i ∷ shown) are some in
            ih.most other (record {
              more = omega (arith, some);
              below = λ block from to. are.below block (omega (arith, from)) to;
              in_order = stand_in_tail (firsts_from table (old + 1) other) first.0 first.1 shown i
                  (first_of_block table old) first.3 first.2;
            })
      ];
    }

later_place : (firsts before behind shown : List ℕ) (i first : ℕ) → (i ≡ first → ⊥) → StandIn firsts behind → i
    ∷ shown ≡ before ++ first ∷ behind → StandIn (first ∷ firsts) shown
later_place firsts [] behind shown i first other in_order is = absurd (other cc)
later_place firsts (b ∷ before) behind shown i first other in_order is = (before, behind, cc, in_order)

known_later : (table : Table) (old i : ℕ) (shown : List ℕ) (known : ℕ)
    → (i ≡ first_of_block table old → i < table.header.maximum_index → ⊥) → IsKnown table old shown known
    → IsKnown table old (i ∷ shown) known
known_later table old i shown known other ih = record {
  reached = record {
    more = ih.reached.more;
    below = ih.reached.below;
    in_order = stand_behind (firsts_from table old known) (i ∷ []) shown ih.reached.in_order;
  };
  most = λ more are. elim (cases_lt old more) [
    | inr few ↦ let from = ih.reached.more in omega (arith, few)
    | inl some ↦
        let first = shown_first table old more (i ∷ shown) are some in
        let below : first_of_block table old < table.header.maximum_index = are.below old (omega arith) some in
        ih.most more (record {
          more = are.more;
          below = are.below;
          in_order = shown_with table old more shown some
              (later_place (firsts_from table (old + 1) more) first.0 first.1 shown i (first_of_block table old)
              (λ is. other is (omega (arith, is, below))) first.3 first.2);
        })
  ];
}

-- ---- all of them

known_none : (table : Table) (old : ℕ) → IsKnown table old [] old
known_none table old = record {
  reached = record {
    more = omega arith;
    below = λ block from to. absurd (omega arith);
    in_order = let none : old - old ≡ 0 = omega arith in rw none tt;
  };
  most = λ other are. elim (cases_lt old other) [
    | inr few ↦ few
    | inl some ↦ let first = shown_first table old other [] are some in
        absurd (no_place first.0 first.1 (first_of_block table old) first.2)
  ];
}

known_is : (table : Table) (shown : List ℕ) (old : ℕ) → IsKnown table old shown (fold (known_after table) old shown)
known_is table [] old = known_none table old
known_is table (i ∷ shown) old =
    let first = first_of_block table old in
    elim (cases_Bool (eqb i (first_of_block table old) && ltb i table.header.maximum_index)) [
      | inl here ↦
          let tests = and_parts (eqb i first) (ltb i table.header.maximum_index) here in
          rw here (known_here table old i shown (fold (known_after table) (old + 1) shown) (eqb-true i first tests.0)
          (ltb-true i table.header.maximum_index tests.1) (known_is table shown (old + 1)))
      | inr other ↦ rw other (known_later table old i shown (fold (known_after table) old shown)
          (λ is below. false≢true (sym other ∙ and_from _ _ (eq-eqb i first is)
          (lt-ltb i table.header.maximum_index below))) (known_is table shown old))
    ]

pub is_known : (table : Table) (known : ℕ) (shown : List ℕ) → IsKnown table known shown (known_of table known shown)
unfolding known_of
is_known table known shown = known_is table shown known

pub only_known : (table : Table) (known : ℕ) (shown : List ℕ) (most : ℕ) → IsKnown table known shown most
    → most ≡ known_of table known shown
only_known table known shown most is =
    let all = is_known table known shown in
    let low = all.most most is.reached in
    let high = is.most (known_of table known shown) all.reached in
    omega (arith, low, high)
