-- The digits of a number are those of the number without its last digit, and the last.
use Rattle.std.proofs.Common.{◌≡◌, ℕ, zero, suc, ◌*◌, ◌/◌, ◌%◌, ◌^◌, ◌<◌, ◌≤◌, ◌==◌, false, true, cond, List, [], ◌∷◌}
use Rattle.std.proofs.Common.{◌++◌, refl, sym, ap, ◌∙◌, arith, append_assoc, lit≤}
use Rattle.std.proofs.Math.Nat.{le_trans, pow-suc}
use Rattle.std.specs.Fmt.{digits, digits_onto, digit_glyph}
use Rattle.std.proofs.lemmas.Bool.{cond-true, cond-false}
use Rattle.std.proofs.lemmas.Bool.Decides.{nat_tests}

-- what follows the digits stays there
behind : (k n : ℕ) (acc : List ℕ) → digits_onto k 16 false n acc ≡ digits_onto k 16 false n [] ++ acc
behind zero n acc = refl
behind (suc k) n acc =
    let digit = digit_glyph false (n % 16) in
    elim (n / 16 == 0) as (λ v. cond v (digit ∷ acc) (digits_onto k 16 false (n / 16) (digit ∷ acc))
    ≡ cond v (digit ∷ []) (digits_onto k 16 false (n / 16) (digit ∷ [])) ++ acc) [
      | true ↦ refl
      | false ↦ behind k (n / 16) (digit ∷ acc)
          ∙ sym (append_assoc (digits_onto k 16 false (n / 16) []) (digit ∷ []) acc)
          ∙ ap (λ (front : List ℕ). front ++ acc) (sym (behind k (n / 16) (digit ∷ [])))
    ]

-- a number that so many digits spell has the same digits where one more may be read
spare : (k n : ℕ) (acc : List ℕ) → n < 16 ^ suc k
    → digits_onto (suc k) 16 false n acc ≡ digits_onto (suc (suc k)) 16 false n acc
spare zero n acc less = let one : (n / 16 == 0) ≡ true = grind (arith, nat_tests) in cond-true (n / 16 == 0) _ _ one
    ∙ sym (cond-true (n / 16 == 0) _ _ one)
spare (suc k) n acc less =
    let digit = digit_glyph false (n % 16) in
    let whole : 16 ^ suc (suc k) ≡ 16 ^ suc k * 16 = pow-suc 16 (suc k) in
    ap (cond (n / 16 == 0) (digit ∷ acc)) (spare k (n / 16) (digit ∷ acc) (omega arith))

pub hexadecimal_more : (n : ℕ) → 16 ≤ n → n < 2 ^ 32 → digits 16 false n ≡ digits 16 false (n / 16)
    ++ digit_glyph false (n % 16) ∷ []
unfolding digits
hexadecimal_more n more less =
    let digit = digit_glyph false (n % 16) in
    let many : (n / 16 == 0) ≡ false = grind (arith, nat_tests) in
    let few : n / 16 < 2 ^ 32 = omega arith in
    cond-false (n / 16 == 0) _ _ many ∙ behind 63 (n / 16) (digit ∷ [])
    ∙ ap (λ (front : List ℕ). front ++ digit ∷ []) (spare 62 (n / 16) [] (le_trans few (lit≤ tt)))
