-- What is read at the front of bytes, where there are enough of them and where there are too few.
use Rattle.std.proofs.Common.{◌≡◌, inl, inr, ℕ, ◌+◌, ◌<◌, ◌≤◌, true, false, ltb, List, length, take, drop, refl, sym}
use Rattle.std.proofs.Common.{ap, ◌∙◌, arith, Ok, Err}
use Rattle.std.proofs.lemmas.Bool.{cases_lt, le-ltb, lt-ltb}
use Rattle.std.proofs.lemmas.List.{drop-drop, length-drop}
use Rattle.byteorder.specs.Endian.{little_number}
use Rattle.pdb_base.specs.Refusal.{Refusal, unexpected_eof}
use Rattle.pdb_base.specs.Reading.{front_at, number_at, number_in}
use Rattle.pdb_base.proofs.lemmas.Collected.{err_is, ok, ok_is_no_err}

pub front_whole : (count : ℕ) (bytes : List ℕ) → count ≤ length bytes
    → front_at count bytes ≡ Ok (take count bytes, drop count bytes)
unfolding front_at
front_whole count bytes long = let test : ltb (length bytes) count ≡ false = le-ltb (length bytes) count long in
    rw test refl

pub front_cut : (count : ℕ) (bytes : List ℕ) → length bytes < count → front_at count bytes ≡ Err unexpected_eof
unfolding front_at
front_cut count bytes short = let test : ltb (length bytes) count ≡ true = lt-ltb (length bytes) count short in
    rw test refl

pub number_whole : (width : ℕ) (bytes : List ℕ) → width ≤ length bytes
    → number_at width bytes ≡ Ok (little_number width (take width bytes), drop width bytes)
unfolding number_at
number_whole width bytes long = rw (front_whole width bytes long) refl

-- the number at an offset, and what follows it
pub number_there : (width offset after : ℕ) (bytes : List ℕ) → offset + width ≡ after → after ≤ length bytes
    → number_at width (drop offset bytes) ≡ Ok (number_in width offset bytes, drop after bytes)
number_there width offset after bytes is long =
    number_whole width (drop offset bytes) (omega (arith, length-drop offset bytes))
    ∙ ap (λ (rest : List ℕ). ok (number_in width offset bytes, rest))
    (drop-drop width offset bytes ∙ ap (λ (n : ℕ). drop n bytes) is)

pub number_cut : (width : ℕ) (bytes : List ℕ) → length bytes < width → number_at width bytes ≡ Err unexpected_eof
unfolding number_at
number_cut width bytes short = rw (front_cut width bytes short) refl

-- bytes are refused only since they end too soon
pub front_ends : (count : ℕ) (bytes : List ℕ) (e : Refusal) → front_at count bytes ≡ Err e → e ≡ unexpected_eof
front_ends count bytes e is = elim (cases_lt (length bytes) count) [
  | inl short ↦ err_is {A = List ℕ × List ℕ} e unexpected_eof (sym is ∙ front_cut count bytes short)
  | inr long ↦ absurd (ok_is_no_err (take count bytes, drop count bytes) e (sym (front_whole count bytes long) ∙ is))
]

pub number_ends : (width : ℕ) (bytes : List ℕ) (e : Refusal) → number_at width bytes ≡ Err e → e ≡ unexpected_eof
number_ends width bytes e is = elim (cases_lt (length bytes) width) [
  | inl short ↦ err_is {A = ℕ × List ℕ} e unexpected_eof (sym is ∙ number_cut width bytes short)
  | inr long ↦ absurd (ok_is_no_err (little_number width (take width bytes), drop width bytes) e
      (sym (number_whole width bytes long) ∙ is))
]
