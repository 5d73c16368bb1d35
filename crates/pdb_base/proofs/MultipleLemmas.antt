-- The next multiple of a number.
use Rattle.std.proofs.Common.{◌≡◌, ◌≢◌, ℕ, ◌+◌, ◌-◌, ◌*◌, ◌/◌, ◌%◌, ◌<◌, inl, inr, min, ap, ◌∙◌, arith}
use Rattle.std.proofs.Math.Nat.{mod-lt, mod-eq_of_lt, div-add-mod', mod_self}
use Rattle.std.proofs.lemmas.Bool.{cases_lt}
use Rattle.std.specs.Int.{div_ceil}

-- one step forward from a place reaches it
pub next_multiple : (place number : ℕ) → number ≢ 0
    → div_ceil place number * number ≡ place + (number - place % number) % number
next_multiple place number some =
    let positive : 0 < number = omega (arith, some) in
    let whole : place / number * number + place % number ≡ place = div-add-mod' place number in
    let below : place % number < number = mod-lt place positive in
    elim (cases_lt 0 (place % number)) [
      | inl past ↦
          let one : min 1 (place % number) ≡ 1 = omega arith in
          let step : (number - place % number) % number ≡ number - place % number = mod-eq_of_lt (omega arith) in
          let next : (place / number + 1) * number ≡ place / number * number + number = omega arith in
          rw (one, step) (omega (arith, next, whole))
      | inr none ↦
          let exact : place % number ≡ 0 = omega arith in
          let step : (number - 0) % number ≡ 0 = ap (λ (n : ℕ). n % number) (omega arith) ∙ mod_self number in
          rw (exact, step) (omega (arith, whole, exact))
    ]
