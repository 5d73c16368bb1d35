-- The item at the front of bytes: what is known where it is there.
use Rattle.std.proofs.Common.{◌≡◌, ℕ, ◌+◌, ◌≤◌, ◌<◌, inl, inr, leb, List, [], length, take, drop, refl, sym, ap, ◌∙◌}
use Rattle.std.proofs.Common.{arith, Ok, Err}
use Rattle.std.proofs.lemmas.Bool.{cases_lt, le-leb, leb-true, lt-leb}
use Rattle.std.proofs.lemmas.List.{length-take-le, length-drop}
use Rattle.byteorder.specs.Endian.{little_number}
use Rattle.pdb_base.specs.Refusal.{unexpected_eof, type_too_short}
use Rattle.pdb_base.specs.Answer.{◌>>=◌, ok_if}
use Rattle.pdb_base.specs.Reading.{front_at}
use Rattle.pdb_base.proofs.lemmas.Collected.{ok, ok_is, ok_is_no_err, bind_ok, required_holds}
use Rattle.pdb_base.proofs.lemmas.Reading.{front_whole, front_cut, number_whole, number_cut}
use Rattle.pdb_tpi.specs.Walk.{first_item}

-- ---- the parts of a read

-- a front that was read is as long as was asked
front_is : (count : ℕ) (bytes : List ℕ) (x : List ℕ × List ℕ) → front_at count bytes ≡ Ok x → (count ≤ length bytes)
    × (x ≡ (take count bytes, drop count bytes))
front_is count bytes x e = elim (cases_lt (length bytes) count) [
  | inl short ↦ absurd (ok_is_no_err x unexpected_eof (sym e ∙ front_cut count bytes short))
  | inr long ↦ (long, ok_is x (take count bytes, drop count bytes) (sym e ∙ front_whole count bytes long))
]

-- ---- an item

-- An item that stands at the front of bytes behind its length.
pub record IsPrefix (bytes item : List ℕ) : Type 0 where
  pub kind : 2 ≤ length item
  pub within : 2 + length item ≤ length bytes
  pub word : little_number 2 (take 2 bytes) ≡ length item
  pub is : item ≡ take (length item) (drop 2 bytes)

pub front_item : (bytes item : List ℕ) → first_item bytes ≡ Ok item → IsPrefix bytes item
unfolding first_item
front_item bytes item e = elim (cases_lt (length bytes) 2) [
  | inl short ↦ absurd (ok_is_no_err item unexpected_eof (sym e ∙ rw (number_cut 2 bytes short) refl))
  | inr long ↦
      let word = little_number 2 (take 2 bytes) in
      let behind = drop 2 bytes in
      let read : first_item bytes ≡ (ok_if (leb 2 word) type_too_short >>= λ kind. front_at word behind
      >>= λ front. Ok front.0) = rw (number_whole 2 bytes long) refl in
      let kind = bind_ok (ok_if (leb 2 word) type_too_short) (λ _. front_at word behind >>= λ front. Ok front.0) item
      (sym read ∙ e) in
      let front = bind_ok (front_at word behind) (λ f. Ok f.0) item kind.2 in
      let whole = front_is word behind front.0 front.1 in
      let is : take word behind ≡ item = sym (ap (λ (x : List ℕ × List ℕ). x.0) whole.1)
      ∙ ok_is front.0.0 item front.2 in
      let len : length item ≡ word = sym (ap (λ (x : List ℕ). length x) is) ∙ length-take-le word behind whole.0 in
      record {
        kind = omega (arith, len, leb-true 2 word (required_holds (leb 2 word) type_too_short kind.0 kind.1));
        within = omega (arith, whole.0, len, length-drop 2 bytes);
        word = sym len;
        is = sym is ∙ ap (λ (n : ℕ). take n behind) (sym len);
      }
]

pub item_front : (bytes item : List ℕ) → IsPrefix bytes item → first_item bytes ≡ Ok item
unfolding first_item
item_front bytes item front =
    let long : 2 ≤ length bytes = let w = front.within in omega arith in
    let behind : length item ≤ length (drop 2 bytes) = let w = front.within in omega (arith, length-drop 2 bytes) in
    rw (number_whole 2 bytes long, front.word, le-leb 2 (length item) front.kind)
    (rw (front_whole (length item) (drop 2 bytes) behind) (ap (λ (x : List ℕ). ok x) (sym front.is)))

-- no item is at the front of no bytes
pub empty_front : first_item [] ≡ Err unexpected_eof
unfolding first_item
empty_front = rw (number_cut 2 [] (omega arith)) refl

-- ---- no item

pub short_front : (bytes : List ℕ) → length bytes < 2 → first_item bytes ≡ Err unexpected_eof
unfolding first_item
short_front bytes short = rw (number_cut 2 bytes short) refl

pub unkind_front : (bytes : List ℕ) → 2 ≤ length bytes → little_number 2 (take 2 bytes) < 2
    → first_item bytes ≡ Err type_too_short
unfolding first_item
unkind_front bytes long few =
    rw (number_whole 2 bytes long, lt-leb 2 (little_number 2 (take 2 bytes)) few) refl

pub cut_front : (bytes : List ℕ) → 2 ≤ little_number 2 (take 2 bytes) → 2 ≤ length bytes
    → length bytes < 2 + little_number 2 (take 2 bytes) → first_item bytes ≡ Err unexpected_eof
unfolding first_item
cut_front bytes some long cut =
    let word = little_number 2 (take 2 bytes) in
    let short : length (drop 2 bytes) < word = omega (arith, length-drop 2 bytes) in
    rw (number_whole 2 bytes long, le-leb 2 word some, front_cut word (drop 2 bytes) short) refl
