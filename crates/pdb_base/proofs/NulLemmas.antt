-- The bits of a mask that says which of a row of bytes are NULs.
use Rattle.std.proofs.Common.{◌≡◌, ◌↔◌, ℕ, ◌+◌, ◌-◌, ◌%◌, ◌/◌, ◌^◌, ◌<◌, ◌≤◌, Bool, true, false, List, cond, eqb}
use Rattle.std.proofs.Common.{length, take, drop, get_or, map, replicate, refl, sym, ap, subst, ◌∙◌, arith, w8, w64}
use Rattle.std.proofs.Common.{shr-shr, Some, inl, inr}
use Rattle.std.specs.Int.{bit_at}
use Rattle.std.specs.Simd.Lanes.{zip2, mask_l, top}
use Rattle.std.proofs.lemmas.Simd.{length-chunk, get_or-chunk, bitmask_splat, bit_mask_l}
use Rattle.std.proofs.lemmas.Nat.{shr_le}
use Rattle.std.proofs.lemmas.Nat.Bits.{bit_at-trailing_zeros, bit_at-zero}
use lib.Count.{count_trailing_zeros}
use Rattle.std.proofs.lemmas.Bool.{cases_lt}
use Rattle.std.proofs.lemmas.List.{get_or-map, get_or_past, length-map}
use Rattle.memchr.specs.Find.{IsFirst, Nowhere, Passes, is_byte}

-- what a bit that stands for a test says
bit_tells : (b : Bool) → (cond {A = ℕ} b 1 0 ≡ 1) ↔ (b ≡ true)
bit_tells true = (λ h. refl, λ h. refl)
bit_tells false = (λ h. absurd (omega (arith, h)), λ h. grind arith)

-- the bits of the comparison of `width` bytes with 0
pub nul_bits : (bytes : List ℕ) (start width : ℕ) → start + width ≤ length bytes → width ≤ 64 → (k : ℕ)
    → (bit_at (mask_l (map (top 7) (zip2 (λ a b. cond (eqb a b) 255 0) (take width (drop start bytes))
    (replicate width 0))) % 2 ^ 64) k ≡ 1) ↔ ((k < width) × Passes (is_byte 0) bytes (start + k))
nul_bits bytes start width room narrow k =
    let lanes = take width (drop start bytes) in
    let tests = map (λ (x : ℕ). eqb x 0) lanes in
    let long : length lanes ≡ width = length-chunk start width bytes room in
    let bit = ap (λ (m : ℕ). bit_at m k) (bitmask_splat w8 eqb lanes width 0 long narrow) ∙ bit_mask_l tests k in
    elim (cases_lt k width) [
      | inl within ↦
          let here : get_or tests k false ≡ eqb (get_or bytes (start + k) 0) 0 =
          get_or-map (λ (x : ℕ). eqb x 0) lanes k 0 false (omega (arith, long))
          ∙ ap (λ (x : ℕ). eqb x 0) (get_or-chunk start width bytes k 0 within) in
          let tells = bit_tells (eqb (get_or bytes (start + k) 0) 0) in
          let bit = bit ∙ ap (λ (b : Bool). cond {A = ℕ} b 1 0) here in
          (λ h. (within, tells.0 (sym bit ∙ h)), λ h. bit ∙ tells.1 h.1)
      | inr past ↦
          let none : get_or tests k false ≡ false =
          get_or_past tests k false (omega (arith, long, length-map lanes (λ (x : ℕ). eqb x 0))) in
          let bit = bit ∙ ap (λ (b : Bool). cond {A = ℕ} b 1 0) none in
          (λ h. absurd (omega (arith, sym bit ∙ h)), λ h. absurd (omega (arith, h.0)))
    ]

-- a bit of a mask that was shifted down
shifted : (mask by k : ℕ) → bit_at (mask / 2 ^ by) k ≡ bit_at mask (by + k)
shifted mask by k = ap (λ (x : ℕ). x % 2) (shr-shr mask by k)

-- a mask of `width` places from `start` on, without those that are skipped
module _ (P : ℕ → Type 0) (mask start skipped width : ℕ)
    (bits : (k : ℕ) → (bit_at mask k ≡ 1) ↔ ((k < width) × P (start + k))) where
  set_at : (k : ℕ) → start + skipped ≤ k → k < start + width → P k
      → bit_at (mask / 2 ^ skipped) (k - (start + skipped)) ≡ 1
  set_at k low high holds =
      let at = k - (start + skipped) in
      let place : k ≡ start + (skipped + at) = omega arith in
      shifted mask skipped at ∙ (bits (skipped + at)).1 (omega arith, subst P place holds)

  pub none_marked : mask / 2 ^ skipped ≡ 0 → Nowhere P (start + skipped) (start + width)
  none_marked none k low high holds =
      let at = k - (start + skipped) in
      absurd (omega (arith, set_at k low high holds, ap (λ (m : ℕ). bit_at m at) none ∙ bit_at-zero at))

  pub first_marked : ¬ (mask / 2 ^ skipped ≡ 0) → mask < 2 ^ 64
      → IsFirst P (start + skipped) (start + width)
      (Some (start + skipped + count_trailing_zeros 64 (mask / 2 ^ skipped)))
  first_marked some fits =
      let left = mask / 2 ^ skipped in
      let zeros = count_trailing_zeros 64 left in
      let lowest = bit_at-trailing_zeros w64 left (omega (arith, some)) (omega (arith, shr_le mask skipped)) in
      let marked = (bits (skipped + zeros)).0 (sym (shifted mask skipped zeros) ∙ lowest.1) in
      let place : start + (skipped + zeros) ≡ start + skipped + zeros = omega arith in (
        record {
          low = omega arith;
          high = omega (arith, marked.0);
          before = λ k low high holds. absurd (omega
              (arith, set_at k low (omega (arith, marked.0)) holds, lowest.2 (k - (start + skipped)) (omega arith)));
        },
        subst P place marked.1,
      )
