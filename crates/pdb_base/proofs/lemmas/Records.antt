-- The records that bytes spell, one after another.
use Rattle.std.proofs.Common.{◌≡◌, ℕ, zero, suc, ◌+◌, ◌-◌, ◌*◌, ◌/◌, ◌%◌, ◌<◌, ◌≤◌, ◌==◌, ◌↔◌, ltb, inl, inr, Bool}
use Rattle.std.proofs.Common.{false, IsTrue, List, [], ◌∷◌, length, get_or, take, drop, map, Ok, refl}
use Rattle.std.proofs.Common.{sym, ap, ◌∙◌, arith}
use Rattle.std.specs.List.{range_with_len}
use Rattle.std.proofs.Math.Nat.{div-eq-sub-div, div-eq_of_lt, mod-eq_of_lt, mul-le-mul_left, mul-div-le}
use Rattle.std.proofs.lemmas.List.{length-drop, length-take-le, drop-drop}
use Rattle.std.proofs.lemmas.List.FromFn.{length-map-range_with_len, get_or-map-range_with_len}
use Rattle.std.proofs.lemmas.Option.{slice_get_within, slice_get-get_or, same_Some}
use Rattle.std.proofs.lemmas.Bool.{cases_lt, eqb-true, le-ltb}
use Rattle.pdb_base.specs.Reading.{front_at}
use Rattle.pdb_base.specs.Records.{values_of_size}
use Rattle.pdb_base.specs.Laws.{AreReadInTurn}
use Rattle.pdb_base.specs.Refusal.{unexpected_eof}
use Rattle.pdb_base.proofs.lemmas.Collected.{ok_is, ok_is_no_err}
use Rattle.pdb_base.proofs.lemmas.Reading.{front_whole, front_cut}

cons_is_not_nil : {A : Type 0} {x : A} {xs : List A} → x ∷ xs ≡ [] → ⊥
cons_is_not_nil e = cc

-- ---- their number, and the record at a place

pub spelled_length : {A : Type 0} (size : ℕ) (value : List ℕ → A) (bytes : List ℕ)
    → length (values_of_size size value bytes) ≡ length bytes / size
unfolding values_of_size
spelled_length size value bytes = length-map-range_with_len (λ k. value (take size (drop (size * k) bytes))) 0
    (length bytes / size)

pub spelled_at : {A : Type 0} (size : ℕ) (value : List ℕ → A) (bytes : List ℕ) (k : ℕ) (d : A) → k < length bytes / size
    → get_or (values_of_size size value bytes) k d ≡ value (take size (drop (size * k) bytes))
unfolding values_of_size
spelled_at size value bytes k d within = get_or-map-range_with_len (λ j. value (take size (drop (size * j) bytes))) 0
    (length bytes / size) k k d within (omega arith)

-- a record's bytes are there
pub record_within : (size k : ℕ) (bytes : List ℕ) → k < length bytes / size → size ≤ length (drop (size * k) bytes)
record_within size k bytes within =
    rw length-drop (omega (arith, mul-le-mul_left size within, mul-div-le (length bytes) size))

-- bytes that were taken from the front are as many as were asked for
pub front_length : (count : ℕ) (bytes front rest : List ℕ) → front_at count bytes ≡ Ok (front, rest)
    → length front ≡ count
front_length count bytes front rest taken = elim (cases_lt (length bytes) count) [
  | inl short ↦ absurd (ok_is_no_err (front, rest) unexpected_eof (sym taken ∙ front_cut count bytes short))
  | inr long ↦
      let both = ok_is (front, rest) (take count bytes, drop count bytes) (sym taken ∙ front_whole count bytes long) in
      ap (λ (x : List ℕ × List ℕ). length x.0) both ∙ length-take-le count bytes long
]

-- ---- the first, and the rest

-- what is made of the later numbers of a range, where each is made as its neighbour below by another
map-range_with_len_later : {X : Type 0} (f g : ℕ → X) (from count : ℕ) → ((k : ℕ) → f (k + 1) ≡ g k)
    → map f (range_with_len (from + 1) count) ≡ map g (range_with_len from count)
map-range_with_len_later f g from zero same = refl
map-range_with_len_later f g from (suc count) same =
    rw (same from, map-range_with_len_later f g (from + 1) count same) refl

-- bytes of less than a record spell none
pub spelled_none : {A : Type 0} (size : ℕ) (value : List ℕ → A) (bytes : List ℕ) → length bytes < size
    → values_of_size size value bytes ≡ []
unfolding values_of_size
spelled_none size value bytes short =
    let none : length bytes / size ≡ 0 = div-eq_of_lt short in
    rw none refl

-- other bytes spell a first record, and those behind it
pub spelled_first : {A : Type 0} (size : ℕ) (value : List ℕ → A) (bytes : List ℕ) → 0 < size → size ≤ length bytes
    → values_of_size size value bytes ≡ value (take size bytes) ∷ values_of_size size value (drop size bytes)
unfolding values_of_size
spelled_first {A} size value bytes some long =
    let len : length (drop size bytes) ≡ length bytes - size = length-drop size bytes in
    let one : length bytes / size ≡ suc (length (drop size bytes) / size) =
    omega (arith, div-eq-sub-div some long, ap (λ n. n / size) len) in
    let later : (k : ℕ) → value (take size (drop (size * (k + 1)) bytes))
    ≡ value (take size (drop (size * k) (drop size bytes))) = λ k.
    let place : size * (k + 1) ≡ size + size * k = omega arith in
    rw (drop-drop (size * k) size bytes, place) refl in
    let start : size * 0 ≡ 0 = omega arith in
    let head : value (take size (drop (size * 0) bytes)) ≡ value (take size bytes) = rw start refl in
    rw (one, head) (ap (λ (rest : List A). value (take size bytes) ∷ rest)
    (map-range_with_len_later (λ k. value (take size (drop (size * k) bytes)))
    (λ k. value (take size (drop (size * k) (drop size bytes)))) 0 (length (drop size bytes) / size) later))

-- behind the bytes of some records stand the other ones
pub spelled_behind : {A : Type 0} (size : ℕ) (value : List ℕ → A) (k : ℕ) (bytes : List ℕ) → 0 < size
    → values_of_size size value (drop (size * k) bytes) ≡ drop k (values_of_size size value bytes)
spelled_behind size value zero bytes some =
    let start : size * 0 ≡ 0 = omega arith in
    rw start refl
spelled_behind {A} size value (suc k) bytes some = elim (cases_lt (length bytes) size) [
  | inl short ↦
      let len = length-drop (size * suc k) bytes in
      let shorter : length (drop (size * suc k) bytes) < size = omega (arith, len, short) in
      rw (spelled_none size value bytes short, spelled_none size value (drop (size * suc k) bytes) shorter) refl
  | inr long ↦
      let place : size * suc k ≡ size + size * k = omega arith in
      let behind : drop (size * suc k) bytes ≡ drop (size * k) (drop size bytes) =
      rw place (sym (drop-drop (size * k) size bytes)) in
      ap (λ (rest : List ℕ). values_of_size size value rest) behind
      ∙ spelled_behind size value k (drop size bytes) some
      ∙ ap (λ (records : List A). drop (suc k) records) (sym (spelled_first size value bytes some long))
]

-- ---- none

-- whole records are none just where there are no bytes
pub none_spelled : {A : Type 0} (size : ℕ) (value : List ℕ → A) (bytes : List ℕ) → 0 < size → length bytes % size ≡ 0
    → values_of_size size value bytes ≡ [] → bytes ≡ []
none_spelled size value [] some whole none = refl
none_spelled size value (byte ∷ bytes) some whole none = elim (cases_lt (length (byte ∷ bytes)) size) [
  | inl short ↦
      let len : length (byte ∷ bytes) % size ≡ length (byte ∷ bytes) = mod-eq_of_lt short in
      absurd (omega (arith, sym len ∙ whole))
  | inr long ↦ absurd (cons_is_not_nil (sym (spelled_first size value (byte ∷ bytes) some long) ∙ none))
]

pub spelled_nothing : {A : Type 0} (size : ℕ) (value : List ℕ → A) → 0 < size → values_of_size size value [] ≡ []
spelled_nothing size value some = spelled_none size value [] some

-- whether there are no bytes is whether there are no records
pub none_where_empty : {A : Type 0} (size : ℕ) (value : List ℕ → A) (bytes : List ℕ) (empty : Bool) → 0 < size
    → length bytes % size ≡ 0 → empty ≡ (length bytes == 0) → IsTrue empty ↔ (values_of_size size value bytes ≡ [])
none_where_empty {A} size value [] empty some whole test = (λ _. spelled_nothing size value some, λ _. test)
none_where_empty size value (byte ∷ bytes) empty some whole test = (
  λ t. absurd (omega (arith, eqb-true (length (byte ∷ bytes)) 0 (sym test ∙ t))),
  λ none. absurd (cons_is_not_nil (none_spelled size value (byte ∷ bytes) some whole none)),
)

-- ---- in turn

pub read_in_turn : {A : Type 0} (size : ℕ) (value : List ℕ → A) (bytes : List ℕ) → AreReadInTurn size value bytes
unfolding front_at
read_in_turn {A} size value bytes = record {
  count = spelled_length size value bytes;
  each = λ k x is.
      let within : k < length bytes / size = rw spelled_length at
      (slice_get_within (values_of_size size value bytes) k x is) in
      let test : ltb (length (drop (size * k) bytes)) size ≡ false =
      le-ltb (length (drop (size * k) bytes)) size (record_within size k bytes within) in
      let here : x ≡ value (take size (drop (size * k) bytes)) =
      same_Some _ _ (sym is ∙ slice_get-get_or (values_of_size size value bytes) k x
      (slice_get_within (values_of_size size value bytes) k x is))
      ∙ spelled_at size value bytes k x within in
      let place : size * (k + 1) ≡ size * k + size = omega arith in
      rw (test, drop-drop size (size * k) bytes, place, here) refl;
}
