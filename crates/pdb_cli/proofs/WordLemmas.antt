-- Digits, one after another.
use Rattle.std.proofs.Common.{◌≡◌, ℕ, ◌+◌, ◌*◌, ◌<◌, ◌≤◌, Bool, cond, ◌&&◌, ltb, leb, true, false, List, [], ◌∷◌}
use Rattle.std.proofs.Common.{length, get_or, take, refl, sym, ap, ◌∙◌, arith, Some, None}
use Rattle.std.specs.Char.{digit_value}
use Rattle.std.specs.Str.Parse.{digits_value}
use Rattle.std.proofs.lemmas.Bool.{lt-ltb, lt-leb}
use Rattle.std.proofs.lemmas.List.{take_more}
use Rattle.std.proofs.lemmas.List.Folds.{list_all-append}
use Rattle.std.proofs.lemmas.Int.Digits.{digits_value_more}
use Rattle.std.proofs.lemmas.Str.Parse.{digits_value-take-le}
use Rattle.pdb_cli.specs.Words.{are_digits, number_in_digits}

-- so many bytes are digits, and this is their number
pub record HasRead (base : ℕ) (digits : List ℕ) (i value : ℕ) : Type 0 where
  pub value_is : value ≡ digits_value base (take i digits)
  pub all : are_digits base (take i digits) ≡ true

pub read_more : (base : ℕ) (digits : List ℕ) (i value : ℕ) → i < length digits → HasRead base digits i value
    → digit_value (get_or digits i 0) < base
    → HasRead base digits (i + 1) (value * base + digit_value (get_or digits i 0))
read_more base digits i value within read digit =
    let here : ltb (digit_value (get_or digits i 0)) base ≡ true = lt-ltb _ _ digit in
    record {
      value_is = ap (λ (v : ℕ). v * base + digit_value (get_or digits i 0)) read.value_is
          ∙ sym (digits_value_more base digits i within);
      all = ap (are_digits base) (take_more digits i 0 within)
          ∙ list_all-append (λ c. ltb (digit_value c) base) (take i digits) (get_or digits i 0 ∷ [])
          ∙ rw (read.all, here) refl;
    }

after_and2 : (b c : Bool) (x : ℕ) → cond (b && (c && false)) (Some x) None ≡ None
after_and2 true true x = refl
after_and2 true false x = refl
after_and2 false c x = refl

not_small : (base most : ℕ) (digits : List ℕ) → leb (digits_value base digits) 0xffffffff ≡ false
    → number_in_digits base most digits ≡ None
unfolding number_in_digits
not_small base most digits none = rw none
    (after_and2 (ltb 0 (length digits) && leb (length digits) most) (are_digits base digits) _)

-- nor do digits whose number is too large already
pub too_large : (base most : ℕ) (digits : List ℕ) (i : ℕ) → 1 ≤ base → 0xffffffff < digits_value base (take i digits)
    → number_in_digits base most digits ≡ None
too_large base most digits i positive large =
    let le = digits_value-take-le base digits i positive in
    not_small base most digits (lt-leb (digits_value base digits) 0xffffffff (omega arith))
