-- A position is aligned to the least multiple at or above it.
use Rattle.std.proofs.Common.{◌≡◌, ◌≢◌, ℕ, ◌+◌, ◌*◌, ◌/◌, ◌%◌, ◌<◌, ◌≤◌, inl, inr, arith}
use Rattle.std.proofs.Math.Nat.{mul-mod_left, mul-le-mul_right, div-add-mod'}
use Rattle.std.proofs.lemmas.Bool.{cases_lt}
use Rattle.std.proofs.lemmas.Grind.{div_ceil_times}
use Rattle.std.proofs.lemmas.Bool.Decides.{nat_tests}
use Rattle.std.specs.Int.{div_ceil}
use Rattle.pdb_base.specs.Place.{Place, align_to}
use Rattle.pdb_base.specs.Laws.{IsNextMultiple, AlignsToNext}

-- of two multiples one that is less is less by the number
below : (number less more : ℕ) → less * number < more * number → less * number + number ≤ more * number
below number less more lt = elim (cases_lt less more) [
  | inl fewer ↦ let next : (less + 1) * number ≤ more * number = mul-le-mul_right number (omega arith) in omega arith
  | inr no_fewer ↦ let back : more * number ≤ less * number = mul-le-mul_right number no_fewer in absurd (omega arith)
]

next_is : (number place : ℕ) → number ≢ 0 → IsNextMultiple number place (div_ceil place number * number)
next_is number place some =
    let positive : 0 < number = omega (arith, some) in
    let bounds : (place ≤ div_ceil place number * number) × (div_ceil place number * number < place + number) =
    div_ceil_times place number positive in
    record {
      multiple = mul-mod_left (div_ceil place number) number;
      above = bounds.0;
      least = λ other multiple above.
          let whole : other / number * number + other % number ≡ other = div-add-mod' other number in
          elim (cases_lt other (div_ceil place number * number)) [
            | inl less ↦
                let lt : other / number * number < div_ceil place number * number =
                omega (arith, whole, multiple, less) in
                let far : other / number * number + number ≤ div_ceil place number * number =
                below number (other / number) (div_ceil place number) lt in
                absurd (omega (arith, far, bounds.1, whole, multiple, above))
            | inr enough ↦ enough
          ];
    }

pub aligns_to_next : (alignment : ℕ) (place : Place) → alignment ≢ 0 → AlignsToNext alignment place
unfolding align_to
aligns_to_next alignment place some = record {
  next = div_ceil place.pos alignment * alignment;
  is_next = next_is alignment place.pos some;
  within = λ reaches. grind (arith, nat_tests);
  past = λ ends. grind (arith, nat_tests);
}
