-- The steps of a search by halving.
use Rattle.std.proofs.Common.{◌≡◌, ℕ, zero, suc, ◌+◌, ◌-◌, ◌/◌, ◌%◌, ◌^◌, ◌<◌, ◌≤◌, ◌⊎◌, inl, inr, length, sym, ap, ◌∙◌}
use Rattle.std.proofs.Common.{arith}
use Rattle.std.specs.Int.Digits.{digits_of}
use Rattle.std.proofs.lemmas.Bool.{cases_lt}
use Rattle.std.proofs.lemmas.Int.Digits.{length-digits_of_step, length-digits_of-le}
use Rattle.std.proofs.Math.Nat.{pow-suc, pow-zero}
use Rattle.pdb_base.specs.Count.{one_more, after_calls}
use Rattle.pdb_base.specs.Halving.{binary_digits, Rises, IsFound}
use Rattle.pdb_base.specs.Laws.{IsLeastToHold}
use Rattle.pdb_base.proofs.lemmas.Count.{call_before}

-- ---- what is found

-- The search has come so far: `size` places from `low` on are left to look at. The last number that was at
-- or below the bound stands right before them, or is the first of them.
pub record IsHalved (number : ℕ → ℕ) (places bound low size last : ℕ) : Type 0 where
  pub within : low + size ≤ places
  pub before : 0 < low → (last ≤ bound) × ((number (low - 1) ≡ last) ⊎ ((0 < size) × (number low ≡ last)))
  pub below : Rises number places → (k : ℕ) → k < low → number k ≤ bound
  pub above : Rises number places → (k : ℕ) → low + size ≤ k → k < places → bound < number k

pub halving_begins : (number : ℕ → ℕ) (places bound last : ℕ) → IsHalved number places bound 0 places last
halving_begins number places bound last = record {
  within = omega arith;
  before = λ some. absurd (omega arith);
  below = λ rises k before. absurd (omega arith);
  above = λ rises k behind within. absurd (omega arith);
}

-- the number in the middle is at or below the bound
pub halving_takes : (number : ℕ → ℕ) (places bound low size last next : ℕ) → IsHalved number places bound low size last
    → 0 < size → next ≡ number (low + size / 2) → next ≤ bound
    → IsHalved number places bound (low + size / 2 + size % 2) (size / 2) next
halving_takes number places bound low size last next so_far some is at =
    let middle = low + size / 2 in
    record {
      within = omega (arith, so_far.within);
      before = λ _. (
        at,
        elim (cases_lt (size % 2) 1) [
          | inl even ↦
              let same : low + size / 2 + size % 2 ≡ middle = omega (arith, even) in
              inr (omega (arith, even, some), ap number same ∙ sym is)
          | inr odd ↦
              let same : low + size / 2 + size % 2 - 1 ≡ middle = omega (arith, odd) in
              inl (ap number same ∙ sym is)
        ],
      );
      below = λ rises k before.
          let up = rises k middle (omega (arith, before)) (omega (arith, some, so_far.within)) in
          omega (arith, up, is, at);
      above = λ rises k behind within. so_far.above rises k (omega (arith, behind)) within;
    }

-- it is above
pub halving_passes : (number : ℕ → ℕ) (places bound low size last next : ℕ) → IsHalved number places bound low size last
    → 0 < size → next ≡ number (low + size / 2) → bound < next
    → IsHalved number places bound low (size / 2) last
halving_passes number places bound low size last next so_far some is above = record {
  within = omega (arith, so_far.within);
  before = λ here.
      let known = so_far.before here in (
        known.0,
        elim known.1 [
          | inl before ↦ inl before
          | inr first ↦ elim (cases_lt (size / 2) 1) [
            | inl one ↦
                let same : low + size / 2 ≡ low = omega (arith, one) in
                let number_there : number (low + size / 2) ≡ last = ap number same ∙ first.1 in
                absurd (omega (arith, number_there, is, above, known.0))
            | inr more ↦ inr (more, first.1)
          ]
        ],
      );
  below = so_far.below;
  above = λ rises k behind within.
      let up = rises (low + size / 2) k behind within in
      omega (arith, up, is, above);
}

-- and nothing is left
pub halving_ends : (number : ℕ → ℕ) (places bound low size last : ℕ) → IsHalved number places bound low size last
    → size ≡ 0 → IsFound number places bound low last
halving_ends number places bound low size last so_far none = record {
  within = omega (arith, so_far.within, none);
  before = λ here.
      let known = so_far.before here in
      elim known.1 as (λ _. (number (low - 1) ≡ last) × (last ≤ bound)) [
        | inl before ↦ (before, known.0)
        | inr first ↦ absurd (omega (arith, first.0, none))
      ];
  below = so_far.below;
  above = λ rises k behind within. so_far.above rises k (omega (arith, behind, none)) within;
}

-- ---- how many numbers are compared

pub halving_counts : (size calls all : ℕ) → 0 < size → after_calls (binary_digits size) calls ≡ all
    → after_calls (binary_digits (size / 2)) (one_more calls) ≡ all
unfolding binary_digits
halving_counts size calls all some so_far =
    let one : length (digits_of 2 size) ≡ length (digits_of 2 (size / 2)) + 1 =
    length-digits_of_step 2 size (omega arith) some in
    call_before calls (length (digits_of 2 (size / 2))) ∙ ap (λ (n : ℕ). after_calls n calls) (sym one) ∙ so_far

pub halving_counted : (size calls all : ℕ) → size ≡ 0 → after_calls (binary_digits size) calls ≡ all → calls ≡ all
unfolding binary_digits
halving_counted size calls all none so_far = ap (λ (n : ℕ). after_calls (length (digits_of 2 n)) calls) (sym none)
    ∙ so_far

-- ---- binary digits

held_by : (turns n : ℕ) → n ≤ turns → n < 2 ^ length (digits_of 2 n)
held_by turns zero few = let one : 2 ^ 0 ≡ 1 = pow-zero 2 in omega (arith, one)
held_by zero (suc n) few = absurd (omega (arith, few))
held_by (suc turns) (suc n) few =
    let half = held_by turns (suc n / 2) (omega (arith, few)) in
    let digits : length (digits_of 2 (suc n)) ≡ suc (length (digits_of 2 (suc n / 2))) =
    omega (arith, length-digits_of_step 2 (suc n) (omega arith) (omega arith)) in
    let power = ap (λ (k : ℕ). 2 ^ k) digits ∙ pow-suc 2 (length (digits_of 2 (suc n / 2))) in
    omega (arith, half, power)

pub least_to_hold : (number : ℕ) → IsLeastToHold number (binary_digits number)
unfolding binary_digits
least_to_hold number = record {
  held = held_by number number (omega arith);
  least = λ other held. length-digits_of-le 2 other number (omega arith) held;
}
