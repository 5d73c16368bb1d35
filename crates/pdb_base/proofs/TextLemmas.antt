-- A text ends at the first NUL.
use Rattle.std.proofs.Common.{◌≡◌, ℕ, zero, suc, ◌+◌, ◌<◌, ◌==◌, true, List, [], ◌∷◌, length, take, drop, refl, sym, ap}
use Rattle.std.proofs.Common.{◌∙◌, arith, slice_index, Some, None, Ok, Err, inl, inr, min}
use Rattle.memchr.specs.Find.{IsFirstByte, is_byte}
use Rattle.pdb_base.specs.Refusal.{Refusal, unexpected_eof}
use Rattle.std.proofs.lemmas.Bool.{cases_Bool, cases_lt}
use Rattle.std.proofs.lemmas.List.{length-drop}
use Rattle.byteorder.specs.Endian.{little_number}
use Rattle.pdb_base.specs.Place.{Place, left, StaysWithin}
use Rattle.pdb_base.specs.Reading.{number_at, text_at}
use Rattle.pdb_base.proofs.lemmas.Collected.{ok_is, ok_is_no_err}
use Rattle.pdb_base.proofs.lemmas.Reading.{number_whole, number_cut}

-- without a NUL
text_none : (bytes : List ℕ) → ((k : ℕ) → k < length bytes → ¬ (slice_index bytes k == 0) ≡ true)
    → text_at bytes ≡ Err unexpected_eof
text_none [] none = refl
text_none (byte ∷ bytes) none =
    let rest = text_none bytes (λ k lt. none (suc k) (omega arith)) in
    elim (cases_Bool (byte == 0)) [
      | inl nul ↦ absurd (none 0 (omega arith) nul)
      | inr other ↦ rw (other, rest) refl
    ]

-- with the first NUL at a place
text_first : (bytes : List ℕ) (k : ℕ) → k < length bytes → ((j : ℕ) → j < k → ¬ (slice_index bytes j == 0) ≡ true)
    → (slice_index bytes k == 0) ≡ true → text_at bytes ≡ Ok (take k bytes, drop (suc k) bytes)
text_first [] k within none nul = absurd (omega arith)
text_first (byte ∷ bytes) zero within none nul = rw nul refl
text_first (byte ∷ bytes) (suc k) within none nul =
    let rest = text_first bytes k (omega arith) (λ j lt. none (suc j) (omega arith)) nul in
    elim (cases_Bool (byte == 0)) [
      | inl here ↦ absurd (none 0 (omega arith) here)
      | inr other ↦ rw (other, rest) refl
    ]

pub text_cut : (bytes : List ℕ) → IsFirstByte (is_byte 0) bytes None → text_at bytes ≡ Err unexpected_eof
text_cut bytes first = text_none bytes (λ k lt. first k (omega arith) lt)

pub text_found : (bytes : List ℕ) (k : ℕ) → IsFirstByte (is_byte 0) bytes (Some k)
    → text_at bytes ≡ Ok (take k bytes, drop (k + 1) bytes)
text_found bytes k first =
    let next : suc k ≡ k + 1 = omega arith in
    text_first bytes k first.0.high (λ j lt. first.0.before j (omega arith) lt) first.1
    ∙ ap (λ (n : ℕ). Ok (take k bytes, drop n bytes)) next

-- ---- behind a length byte

-- no byte is left where none was read
pub none_left : (place : Place) (e : Refusal) → number_at 1 (left place) ≡ Err e
    → place ≡ record place { pos = place.pos + min 1 (length (left place)) }
none_left place e refused = elim (cases_lt (length (left place)) 1) [
  | inl short ↦ let none : place.pos ≡ place.pos + min 1 (length (left place)) = omega (arith, short) in
      ap (λ (n : ℕ). record place { pos = n }) none
  | inr long ↦ absurd (ok_is_no_err (little_number 1 (take 1 (left place)), drop 1 (left place)) e
      (sym (number_whole 1 (left place) long) ∙ refused))
]

-- one byte was read
pub one_read : (old new : Place) (n : ℕ) → StaysWithin old new → number_at 1 (left old) ≡ Ok (n, left new)
    → new ≡ record old { pos = old.pos + min 1 (length (left old)) }
one_read old new n stays is = elim (cases_lt (length (left old)) 1) [
  | inl short ↦ absurd (ok_is_no_err (n, left new) unexpected_eof (sym is ∙ number_cut 1 (left old) short))
  | inr long ↦
      let behind : drop 1 (left old) ≡ left new =
      ap (λ (x : ℕ × List ℕ). x.1) (ok_is (little_number 1 (take 1 (left old)), drop 1 (left old)) (n, left new)
      (sym (number_whole 1 (left old) long) ∙ is)) in
      let lengths : length (drop 1 (left old)) ≡ length (left new) = ap length behind in
      let same : length new.slice ≡ length old.slice = ap length stays.slice in
      let pos : new.pos ≡ old.pos + min 1 (length (left old)) =
      omega (
        arith,
        long,
        lengths,
        same,
        stays.pos,
        length-drop 1 (left old),
        length-drop old.pos old.slice,
        length-drop new.pos new.slice,
      ) in
      ap (λ (s : List ℕ). record { slice = s; pos = new.pos }) stays.slice
      ∙ ap (λ (p : ℕ). record { slice = old.slice; pos = p }) pos
]
