-- Slices that are joined where one begins just where another ends, and their first bytes.
use Rattle.std.proofs.Common.{◌≡◌, ℕ, zero, suc, ◌+◌, ◌-◌, ◌<◌, ◌≤◌, true, false, eqb, leb, List, [], ◌∷◌, ◌++◌, length}
use Rattle.std.proofs.Common.{get_or, set, take, refl, sym, ap, ◌∙◌, arith, inl, inr, length-append, append_assoc}
use Rattle.std.specs.List.{range_with_len}
use Rattle.std.proofs.lemmas.Bool.{cases_lt, le-leb, lt-leb, eq-eqb, ne_eqb}
use Rattle.std.proofs.lemmas.Bool.Decides.{eqb_tells}
use Rattle.std.proofs.lemmas.List.{append-nil, take-append-le, take_all}
use Rattle.std.proofs.lemmas.List.FromFn.{length-range_with_len}
use Rattle.pdb_msf.specs.declared.source.SourceSlice.{SourceSlice}
use Rattle.pdb_msf.specs.Source.{slice_positions, positions}
use Rattle.pdb_msf.specs.PageList.{join_slices, with_slice, first_bytes_of}
use Rattle.pdb_msf.proofs.PositionLemmas.{take-range_with_len, take-append-ge}

-- ---- one slice more

-- joined to the last one, which is lengthened
pub add_joined : (slices : List SourceSlice) (i : ℕ) (last next : SourceSlice) → length slices ≡ suc i
    → last ≡ get_or slices i last → eqb (last.offset + last.size) next.offset ≡ true
    → set slices i (record { offset = last.offset; size = last.size + next.size }) ≡ with_slice slices next
unfolding with_slice join_slices
add_joined [] i last next long is meets = absurd (omega arith)
add_joined (slice ∷ []) zero last next long is meets =
    let test : eqb (slice.offset + slice.size) next.offset ≡ true =
    ap (λ (s : SourceSlice). eqb (s.offset + s.size) next.offset) (sym is) ∙ meets in
    rw test (ap (λ (s : SourceSlice). record s { size = s.size + next.size } ∷ []) is)
add_joined (slice ∷ []) (suc i) last next long is meets = absurd (omega arith)
add_joined (slice ∷ (other ∷ slices)) zero last next long is meets = absurd (omega arith)
add_joined (slice ∷ (other ∷ slices)) (suc i) last next long is meets =
    ap (λ (s : List SourceSlice). slice ∷ s) (add_joined (other ∷ slices) i last next (omega arith) is meets)

-- behind one that ends elsewhere
pub add_apart : (slices : List SourceSlice) (i : ℕ) (last next : SourceSlice) → length slices ≡ suc i
    → last ≡ get_or slices i last → eqb (last.offset + last.size) next.offset ≡ false
    → slices ++ next ∷ [] ≡ with_slice slices next
unfolding with_slice join_slices
add_apart [] i last next long is apart = absurd (omega arith)
add_apart (slice ∷ []) zero last next long is apart =
    let test : eqb (slice.offset + slice.size) next.offset ≡ false =
    ap (λ (s : SourceSlice). eqb (s.offset + s.size) next.offset) (sym is) ∙ apart in
    rw test refl
add_apart (slice ∷ []) (suc i) last next long is apart = absurd (omega arith)
add_apart (slice ∷ (other ∷ slices)) zero last next long is apart = absurd (omega arith)
add_apart (slice ∷ (other ∷ slices)) (suc i) last next long is apart =
    ap (λ (s : List SourceSlice). slice ∷ s) (add_apart (other ∷ slices) i last next (omega arith) is apart)

-- behind none
pub add_first : (slices : List SourceSlice) (next : SourceSlice) → (0 < length slices → ⊥) → slices ++ next
    ∷ [] ≡ with_slice slices next
unfolding with_slice
add_first [] next none = refl
add_first (slice ∷ slices) next none = absurd (none (omega arith))

-- a slice has no more bytes than all
pub last_fits : (slices : List SourceSlice) (i : ℕ) (last : SourceSlice) → i < length slices
    → last ≡ get_or slices i last → last.size ≤ length (positions slices)
last_fits [] i last within is = absurd (omega arith)
last_fits (slice ∷ slices) zero last within is =
    omega (
      arith,
      ap (λ (s : SourceSlice). s.size) is,
      length-append (slice_positions slice) (positions slices),
      length-range_with_len slice.offset slice.size,
    )
last_fits (slice ∷ slices) (suc i) last within is =
    omega (arith, last_fits slices i last (omega arith) is, length-append (slice_positions slice) (positions slices))

pub range_joined : (from size more : ℕ) → range_with_len from (size + more) ≡ range_with_len from size
    ++ range_with_len (from + size) more
range_joined from zero more =
    let count : 0 + more ≡ more = omega arith in
    let start : from ≡ from + 0 = omega arith in
    ap (range_with_len from) count ∙ ap (λ (n : ℕ). range_with_len n more) start
range_joined from (suc size) more =
    let count : suc size + more ≡ suc (size + more) = omega arith in
    let start : from + 1 + size ≡ from + suc size = omega arith in
    ap (range_with_len from) count ∙ ap (λ (r : List ℕ). from ∷ r)
    (range_joined (from + 1) size more ∙ ap (λ (n : ℕ). range_with_len (from + 1) size
    ++ range_with_len n more) start)

joined_positions : (slice next : SourceSlice) → positions (join_slices slice next) ≡ slice_positions slice
    ++ slice_positions next
unfolding join_slices
joined_positions slice next = elim (eqb_tells (slice.offset + slice.size) next.offset) [
  | inl meets ↦ rw meets.0 (append-nil (range_with_len slice.offset (slice.size + next.size))
      ∙ range_joined slice.offset slice.size next.size
      ∙ ap (λ (n : ℕ). slice_positions slice ++ range_with_len n next.size) meets.1)
  | inr apart ↦ rw apart.0 (ap (λ (r : List ℕ). slice_positions slice ++ r) (append-nil (slice_positions next)))
]

-- whatever is joined, the positions of the slice stand behind those before
pub positions_with : (slices : List SourceSlice) (next : SourceSlice)
    → positions (with_slice slices next) ≡ positions slices ++ slice_positions next
unfolding with_slice
positions_with [] next = append-nil (slice_positions next)
positions_with (slice ∷ []) next = joined_positions slice next
    ∙ ap (λ (r : List ℕ). r ++ slice_positions next) (sym (append-nil (slice_positions slice)))
positions_with (slice ∷ (other ∷ slices)) next =
    ap (λ (r : List ℕ). slice_positions slice ++ r) (positions_with (other ∷ slices) next)
    ∙ sym (append_assoc (slice_positions slice) (positions (other ∷ slices)) (slice_positions next))

pub length-positions_with : (slices : List SourceSlice) (next : SourceSlice)
    → length (positions (with_slice slices next)) ≡ length (positions slices) + next.size
length-positions_with slices next =
    ap length (positions_with slices next) ∙ length-append (positions slices) (slice_positions next)
    ∙ ap (λ (n : ℕ). length (positions slices) + n) (length-range_with_len next.offset next.size)

-- ---- the first bytes

length-positions_first : (slice : SourceSlice) (slices : List SourceSlice)
    → length (positions (slice ∷ slices)) ≡ slice.size + length (positions slices)
length-positions_first slice slices =
    length-append (slice_positions slice) (positions slices)
    ∙ ap (λ (n : ℕ). n + length (positions slices)) (length-range_with_len slice.offset slice.size)

-- all of slices that have no more bytes
pub first_of_all : (n : ℕ) (slices : List SourceSlice) → length (positions slices) ≤ n → first_bytes_of n slices
    ≡ slices
unfolding first_bytes_of
first_of_all n [] few = refl
first_of_all n (slice ∷ slices) few =
    let whole = length-positions_first slice slices in
    let test : leb slice.size n ≡ true = le-leb slice.size n (omega arith) in
    rw test (ap (λ (s : List SourceSlice). slice ∷ s) (first_of_all (n - slice.size) slices (omega arith)))

-- without their last one slices still have their first n bytes, if there are that many
pub first_of_fewer : (n : ℕ) (shorter : List SourceSlice) (last : SourceSlice) → n ≤ length (positions shorter)
    → n < length (positions shorter) + last.size → first_bytes_of n shorter ≡ first_bytes_of n (shorter ++ last ∷ [])
unfolding first_bytes_of
first_of_fewer n [] last there more =
    let test : leb last.size n ≡ false = lt-leb last.size n (omega arith) in
    let none : eqb n 0 ≡ true = eq-eqb n 0 (omega arith) in
    rw (test, none) refl
first_of_fewer n (slice ∷ shorter) last there more =
    let whole = length-positions_first slice shorter in
    elim (cases_lt n slice.size) [
      | inl cut ↦ let test : leb slice.size n ≡ false = lt-leb slice.size n cut in rw test refl
      | inr fits ↦ let test : leb slice.size n ≡ true = le-leb slice.size n fits in
          rw test (ap (λ (s : List SourceSlice). slice ∷ s)
          (first_of_fewer (n - slice.size) shorter last (omega arith) (omega arith)))
    ]

-- where they end within the last one, this is cut
pub first_of_cut : (n : ℕ) (shorter : List SourceSlice) (last : SourceSlice) → length (positions shorter) < n
    → n < length (positions shorter) + last.size
    → first_bytes_of n (shorter ++ last ∷ []) ≡ shorter
    ++ record { offset = last.offset; size = n - length (positions shorter) } ∷ []
unfolding first_bytes_of
first_of_cut n [] last behind within =
    let test : leb last.size n ≡ false = lt-leb last.size n (omega arith) in
    let some : eqb n 0 ≡ false = ne_eqb n 0 (omega arith) in
    let size : n ≡ n - 0 = omega arith in
    rw (test, some) (ap (λ (k : ℕ). record last { size = k } ∷ []) size)
first_of_cut n (slice ∷ shorter) last behind within =
    let whole = length-positions_first slice shorter in
    let test : leb slice.size n ≡ true = le-leb slice.size n (omega arith) in
    let size : n - slice.size - length (positions shorter) ≡ n - length (positions (slice ∷ shorter)) = omega arith in
    rw test (ap (λ (s : List SourceSlice). slice ∷ s)
    (first_of_cut (n - slice.size) shorter last (omega arith) (omega arith)
    ∙ ap (λ (k : ℕ). shorter ++ record { offset = last.offset; size = k } ∷ []) size))

-- their positions are the first n positions
pub positions_first_of : (n : ℕ) (slices : List SourceSlice) → positions (first_bytes_of n slices)
    ≡ take n (positions slices)
unfolding first_bytes_of
positions_first_of n [] = sym (take_all n [] (omega arith))
positions_first_of n (slice ∷ slices) = elim (cases_lt n slice.size) [
  | inr fits ↦ let test : leb slice.size n ≡ true = le-leb slice.size n fits in
      let whole : length (slice_positions slice) ≡ slice.size = length-range_with_len slice.offset slice.size in
      rw test (ap (λ (r : List ℕ). slice_positions slice ++ r)
      (positions_first_of (n - slice.size) slices ∙ ap (λ (k : ℕ). take (n - k) (positions slices)) (sym whole))
      ∙ sym (take-append-ge n (slice_positions slice) (positions slices) (omega arith)))
  | inl cut ↦ let test : leb slice.size n ≡ false = lt-leb slice.size n cut in
      let whole : length (slice_positions slice) ≡ slice.size = length-range_with_len slice.offset slice.size in
      let front : take n (positions (slice ∷ slices)) ≡ range_with_len slice.offset n =
      take-append-le n (slice_positions slice) (positions slices) (omega arith)
      ∙ take-range_with_len slice.offset slice.size n (omega arith) in
      elim (eqb_tells n 0) [
        | inl none ↦ rw (test, none.0) (sym (front ∙ ap (range_with_len slice.offset) none.1))
        | inr some ↦ rw (test, some.0) (append-nil (range_with_len slice.offset n) ∙ sym front)
      ]
]
