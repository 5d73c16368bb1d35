-- The first of several values that passes a test, of which some are done.
use Rattle.std.proofs.Common.{◌≡◌, ℕ, suc, ◌+◌, ◌-◌, ◌<◌, Bool, true, false, List, Some, Ok, Err, refl, arith}
use Rattle.pdb_base.specs.Answer.{Answer}
use Rattle.pdb_base.specs.Refusal.{Refusal}
use Rattle.pdb_file.specs.Image.{first_read}

module _ {A : Type 0} (read : List ℕ → Answer (A × List ℕ)) (passes : A → Bool) (count done : ℕ) (bytes : List ℕ)
    (less : done < count) where
  some_left : count - done ≡ suc (count - (done + 1))
  some_left = omega (arith, less)

  -- the next can't be read
  pub first_refused : (refusal : Refusal) → read bytes ≡ Err refusal
      → first_read read passes (count - done) bytes ≡ Err refusal
  first_refused refusal is = rw (some_left, is) refl

  -- the next passes
  pub first_passed : (value : A) (rest : List ℕ) → read bytes ≡ Ok (value, rest) → passes value ≡ true
      → first_read read passes (count - done) bytes ≡ Ok (Some value)
  first_passed value rest is does = rw (some_left, is, does) refl

  -- the next doesn't
  pub first_passed_by : (value : A) (rest : List ℕ) → read bytes ≡ Ok (value, rest) → passes value ≡ false
      → first_read read passes (count - done) bytes ≡ first_read read passes (count - (done + 1)) rest
  first_passed_by value rest is does_not = rw (some_left, is, does_not) refl
