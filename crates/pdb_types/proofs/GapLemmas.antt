-- The gap rows of a class.
use Rattle.std.proofs.Common.{◌≡◌, inl, inr, ℕ, ◌+◌, ◌-◌, ◌*◌, ◌/◌, ◌<◌, ◌≤◌, max, List, [], ◌∷◌, ◌++◌}
use Rattle.std.proofs.Common.{length, get_or, map, refl, sym, ap, subst, ◌∙◌, arith, Bool, true, false, ◌&&◌}
use Rattle.std.proofs.Common.{◌||◌, cond, ltb, leb}
use Rattle.std.specs.List.{All, count_by, list_any}
use Rattle.std.proofs.lemmas.Bool.{cases_lt, cases_Bool, both_ways, and_parts, or_left, or_right, or_parts, or_from}
use Rattle.std.proofs.lemmas.Bool.{lt-ltb, le-ltb, ltb-true, leb-true, true_from_ne_false, false_from_ne_true}
use Rattle.std.proofs.lemmas.Bool.{cond_both, ltb-false}
use Rattle.std.proofs.lemmas.List.{map-append}
use Rattle.std.proofs.lemmas.List.Elements.{All-append, All-map, All-weaker}
use Rattle.std.proofs.lemmas.List.Folds.{list_any-append, list_any_at}
use Rattle.std.proofs.lemmas.List.Sums.{sum_by-cons}
use Rattle.pdb_types.specs.declared.gap.Gap.{Gap}
use Rattle.pdb_types.specs.declared.span.Span.{Span}
use Rattle.pdb_types.specs.Gap.{AreGapRows, AreOfKind, AreUnusedBits, AreVirtualBases, IsHole, IsTaken, IsWholeBytes}
use Rattle.pdb_types.specs.Gap.{bits_in, bytes_touched, greatest_end, hole_row, tail_row, tail_start, unused_row}
use Rattle.pdb_types.specs.Span.{AreGaps, gap_of, holds}
use Rattle.pdb_types.proofs.SpanLemmas.{before_test, behind_test, gap_before, gap_behind, gap_holds, gap_some}
use Rattle.pdb_types.proofs.SpanLemmas.{counted_more, gap_all, gap_within, held_test}

-- ---- counts

-- a step of a count
counted : {X : Type 0} (p : X → Bool) (x : X) (xs : List X) → count_by p (x ∷ xs) ≡ cond (p x) 1 0 + count_by p xs
counted {X} p x xs = sum_by-cons (λ (y : X). cond (p y) 1 0) x xs

-- what is in none is counted in none
none_counted : {X : Type 0} (p : X → Bool) (xs : List X) → list_any p xs ≡ false → count_by p xs ≡ 0
none_counted p [] none = refl
none_counted p (x ∷ xs) none =
    let parts = or_parts (p x) (list_any p xs) none in
    counted p x xs ∙ rw parts.0 (omega (arith, none_counted p xs parts.1))

counted_none : {X : Type 0} (p : X → Bool) (xs : List X) → count_by p xs ≡ 0 → list_any p xs ≡ false
counted_none p [] none = refl
counted_none p (x ∷ xs) none =
    let step : cond (p x) 1 0 + count_by p xs ≡ 0 = sym (counted p x xs) ∙ none in
    elim (cases_Bool (p x)) as (λ _. (p x || list_any p xs) ≡ false) [
      | inl here ↦ let one : 1 + count_by p xs ≡ 0 = rw here at step in absurd (omega (arith, one))
      | inr other ↦ or_from (p x) (list_any p xs) other (counted_none p xs (omega (arith, step)))
    ]

counted_one : {X : Type 0} (p : X → Bool) (xs : List X) → count_by p xs ≡ 1 → list_any p xs ≡ true
counted_one p xs one = true_from_ne_false (list_any p xs) (λ none. omega (arith, none_counted p xs none, one))

-- a place in one of the spans is in some
counted_at : {X : Type 0} (p : X → Bool) (xs : List X) (k : ℕ) (d : X) → k < length xs → p (get_or xs k d) ≡ true
    → count_by p xs ≡ 0 → ⊥
counted_at p xs k d within is none = both_ways (list_any p xs) (counted_none p xs none) (list_any_at p xs k d within is)

-- ---- bits and bytes

-- a bit is in the bits of bytes if its byte is in them
bit_in : (bit : ℕ) (bytes : Span) → holds bit (bits_in bytes) ≡ holds (bit / 8) bytes
bit_in bit bytes = elim (cases_lt (bit / 8) bytes.start) [
  | inl before ↦
      before_test bit (bytes.start * 8) (bytes.end * 8) (omega (arith, before))
      ∙ sym (before_test (bit / 8) bytes.start bytes.end before)
  | inr from ↦ elim (cases_lt (bit / 8) bytes.end) [
    | inl to ↦
        held_test bit (bytes.start * 8) (bytes.end * 8) (omega (arith, from)) (omega (arith, to))
        ∙ sym (held_test (bit / 8) bytes.start bytes.end from to)
    | inr behind ↦
        behind_test bit (bytes.start * 8) (bytes.end * 8) (omega (arith, behind))
        ∙ sym (behind_test (bit / 8) bytes.start bytes.end behind)
  ]
]

abbrev pub row_bits : Gap → Span
row_bits row = row.bits

-- the bits of rows of whole bytes
bytes_counted : (row : Span → Gap) → ((bytes : Span) → (row bytes).bits ≡ bits_in bytes) → (bit : ℕ) (all : List Span)
    → count_by (holds bit) (map row_bits (map row all)) ≡ count_by (holds (bit / 8)) all
bytes_counted row is bit [] = refl
bytes_counted row is bit (bytes ∷ all) =
    rw (counted, is bytes, bit_in bit bytes, bytes_counted row is bit all) (sym (counted (holds (bit / 8)) bytes all))

unused_same : (unused : List Span) → map row_bits (map unused_row unused) ≡ unused
unused_same [] = refl
unused_same (bits ∷ unused) = ap (λ (l : List Span). bits ∷ l) (unused_same unused)

-- a bit of a span is in one of its bytes
in_bytes : (bit : ℕ) (span : Span) → holds bit span ≡ true → holds (bit / 8) (bytes_touched span) ≡ true
in_bytes bit span is =
    let parts = and_parts (leb span.start bit) (ltb bit span.end) is in
    let from = leb-true span.start bit parts.0 in
    let to = ltb-true bit span.end parts.1 in
    rw (lt-ltb span.start span.end (omega (arith, from, to)))
    (held_test (bit / 8) (span.start / 8) ((span.end - 1) / 8 + 1) (omega (arith, from)) (omega (arith, to)))

-- and each of its bytes has a bit of it
in_bits : (byte : ℕ) (span : Span) → holds byte (bytes_touched span) ≡ true → (bit : ℕ) × (bit / 8 ≡ byte)
    × (holds bit span ≡ true)
in_bits byte span is = elim (cases_lt span.start span.end) [
  | inl some ↦
      let there : (leb (span.start / 8) byte && ltb byte ((span.end - 1) / 8 + 1)) ≡ true =
      rw (lt-ltb span.start span.end some) at is in
      let parts = and_parts (leb (span.start / 8) byte) (ltb byte ((span.end - 1) / 8 + 1)) there in
      let from = leb-true (span.start / 8) byte parts.0 in
      let to = ltb-true byte ((span.end - 1) / 8 + 1) parts.1 in
      elim (cases_lt (byte * 8) span.start) [
        | inl before ↦ (
          span.start,
          omega (arith, from, before),
          held_test span.start span.start span.end (omega arith) some,
        )
        | inr behind ↦ (
          byte * 8,
          omega arith,
          held_test (byte * 8) span.start span.end behind
              (omega (arith, to, some)),
        )
      ]
  | inr none ↦
      let there : (leb 0 byte && ltb byte 0) ≡ true = rw (le-ltb span.start span.end none) at is in
      let parts = and_parts (leb 0 byte) (ltb byte 0) there in
      let to = ltb-true byte 0 parts.1 in
      absurd (omega (arith, to))
]

-- ---- the bytes of which fields take bits

abbrev touched : List Span → ℕ → Bool
touched spans byte = list_any (holds byte) (map bytes_touched spans)

taken_touches : (spans : List Span) (bit : ℕ) → list_any (holds bit) spans ≡ true → touched spans (bit / 8) ≡ true
taken_touches [] bit taken = taken
taken_touches (span ∷ spans) bit taken = elim (cases_Bool (holds bit span)) as
    (λ _. touched (span ∷ spans) (bit / 8) ≡ true) [
      | inl here ↦ or_left _ _ (in_bytes bit span here)
      | inr other ↦ or_right _ _ (taken_touches spans bit (rw other at taken))
    ]

-- a byte of which no field takes a bit
untouched_free : (spans : List Span) (bit : ℕ) → touched spans (bit / 8) ≡ false → list_any (holds bit) spans ≡ false
untouched_free spans bit none = false_from_ne_true (list_any (holds bit) spans)
    (λ taken. both_ways (touched spans (bit / 8)) none (taken_touches spans bit taken))

touched_taken : (spans : List Span) (byte : ℕ) → touched spans byte ≡ true → (bit : ℕ) × (bit / 8 ≡ byte)
    × IsTaken spans bit
touched_taken [] byte is = absurd cc
touched_taken (span ∷ spans) byte is = elim (cases_Bool (holds byte (bytes_touched span))) [
  | inl here ↦ let there = in_bits byte span here in (there.0, there.1, or_left _ _ there.2)
  | inr other ↦ let there = touched_taken spans byte (rw other at is) in (there.0, there.1, or_right _ _ there.2)
]

-- ---- where the fields end

touched_below : (spans : List Span) (byte : ℕ) → list_any (holds byte) spans ≡ true → byte < greatest_end spans
touched_below [] byte is = absurd cc
touched_below (span ∷ spans) byte is = elim (cases_Bool (holds byte span)) [
  | inl here ↦
      let parts = and_parts (leb span.start byte) (ltb byte span.end) here in
      let to = ltb-true byte span.end parts.1 in
      omega (arith, to)
  | inr other ↦ let rest = touched_below spans byte (rw other at is) in omega (arith, rest)
]

last_byte : (span : Span) → 0 < (bytes_touched span).end → holds ((bytes_touched span).end - 1) (bytes_touched span)
    ≡ true
last_byte span some = elim (cases_lt span.start span.end) as
    (λ _. holds ((bytes_touched span).end - 1) (bytes_touched span) ≡ true) [
      | inl less ↦
          rw (lt-ltb span.start span.end less)
          (held_test ((span.end - 1) / 8 + 1 - 1) (span.start / 8) ((span.end - 1) / 8 + 1) (omega (arith, less))
          (omega arith))
      | inr none ↦
          let zero : 0 < 0 = rw (le-ltb span.start span.end none) at some in
          absurd (omega (arith, zero))
    ]

-- the last of them is touched
last_touched : (spans : List Span) → 0 < greatest_end (map bytes_touched spans)
    → touched spans (greatest_end (map bytes_touched spans) - 1) ≡ true
last_touched [] some = absurd (omega (arith, some))
last_touched (span ∷ spans) some =
    let own = (bytes_touched span).end in
    let rest = greatest_end (map bytes_touched spans) in
    let P : ℕ → Type 0 = λ n. touched (span ∷ spans) (n - 1) ≡ true in
    elim (cases_lt own rest) as (λ _. touched (span ∷ spans) (max own rest - 1) ≡ true) [
      | inl less ↦
          let is : rest ≡ max own rest = omega (arith, less) in
          subst P is (or_right _ _ (last_touched spans (omega (arith, less))))
      | inr more ↦
          let is : own ≡ max own rest = omega (arith, more) in
          subst P is (or_left _ _ (last_byte span (omega (arith, some, is))))
    ]

are_whole : (bytes : Span) → IsWholeBytes (bits_in bytes)
are_whole bytes = record { start = omega arith; end = omega arith }

-- where the virtual bases begin
pub record IsTailStart (bytes : List Span) (size : ℕ) (virtual : Bool) (tail : ℕ) : Type 0 where
  pub most : tail ≤ size
  pub has : tail < size → virtual ≡ true
  pub after : tail < size → greatest_end bytes ≤ tail
  pub before : virtual ≡ true → tail ≤ greatest_end bytes

tail_by : (bytes : List Span) (size : ℕ) (virtual : Bool)
    → IsTailStart bytes size virtual (tail_start bytes size virtual)
tail_by bytes size false = record {
  most = omega arith;
  has = λ less. absurd (omega (arith, less));
  after = λ less. absurd (omega (arith, less));
  before = λ is. absurd cc;
}
tail_by bytes size true =
    let end = greatest_end bytes in
    cond_both (ltb end size) end size (IsTailStart bytes size true)
    (λ is. let less = ltb-true end size is in record {
      most = omega (arith, less);
      has = λ below. refl;
      after = λ below. omega arith;
      before = λ has. omega arith;
    })
    (λ is. let more = ltb-false end size is in record {
      most = omega arith;
      has = λ below. refl;
      after = λ below. absurd (omega (arith, below));
      before = λ has. more;
    })

-- ---- all rows

abbrev pub whole_rows : List Span → ℕ → ℕ → List Gap
whole_rows holes tail size = map hole_row holes ++ map tail_row (gap_of tail size)

-- The gaps of whole bytes and those of bits are found.
pub record AreFoundGaps (spans : List Span) (size : ℕ) (virtual : Bool) (tail : ℕ)
    (holes unused : List Span) : Type 0 where
  pub at : IsTailStart (map bytes_touched spans) size virtual tail
  pub whole : AreGaps (map bytes_touched spans) tail holes
  pub bits : AreGaps (spans ++ map row_bits (whole_rows holes tail size)) (size * 8) unused

module _ (spans : List Span) (size : ℕ) (virtual : Bool) (tail : ℕ) (holes unused : List Span)
    (are : AreFoundGaps spans size virtual tail holes unused) where
  -- the bits of rows of whole bytes, and of all rows
  abbrev whole_bits : List Span
  whole_bits = map row_bits (whole_rows holes tail size)

  abbrev all_bits : List Span
  all_bits = map row_bits (whole_rows holes tail size ++ map unused_row unused)

  abbrev whole_count : ℕ → ℕ
  whole_count byte = count_by (holds byte) holes + count_by (holds byte) (gap_of tail size)

  whole_counted : (bit : ℕ) → count_by (holds bit) whole_bits ≡ whole_count (bit / 8)
  whole_counted bit =
      rw (
        map-append,
        counted_more bit,
        bytes_counted hole_row (λ bytes. refl) bit,
        bytes_counted tail_row (λ bytes. refl) bit,
      )
      refl

  whole_touched : (byte : ℕ) → touched spans byte ≡ true → whole_count byte ≡ 0
  whole_touched byte is =
      let below = touched_below (map bytes_touched spans) byte is in
      let none = are.whole.taken byte is in
      elim (cases_lt byte tail) [
        | inl before ↦ omega (arith, none, gap_before byte tail size before)
        | inr from ↦
            let over : size ≤ byte = elim (cases_lt tail size) as (λ _. size ≤ byte) [
              | inl less ↦ absurd (omega (arith, are.at.after less, below, from))
              | inr more ↦ omega (arith, more, from)
            ] in
            omega (arith, none, gap_behind byte tail size over)
      ]

  whole_free : (byte : ℕ) → touched spans byte ≡ false → byte < size → whole_count byte ≡ 1
  whole_free byte free inside = elim (cases_lt byte tail) [
    | inl before ↦ omega (arith, are.whole.free byte before free, gap_before byte tail size before)
    | inr from ↦ omega (arith, are.whole.beyond byte from, gap_holds byte tail size from inside)
  ]

  -- the bits of all rows are those of the rows of whole bytes, and unused ones
  rows_counted : (bit : ℕ) → count_by (holds bit) all_bits ≡ whole_count (bit / 8) + count_by (holds bit) unused
  rows_counted bit = rw (map-append, unused_same, counted_more bit, whole_counted bit) refl

  -- whether a bit is taken or in a row of whole bytes
  is_either : (bit : ℕ)
      → list_any (holds bit) (spans ++ whole_bits) ≡ (list_any (holds bit) spans || list_any (holds bit) whole_bits)
  is_either bit = list_any-append (holds bit) spans whole_bits

  taken_rows : (bit : ℕ) → list_any (holds bit) spans ≡ true → count_by (holds bit) all_bits ≡ 0
  taken_rows bit taken =
      let whole = whole_touched (bit / 8) (taken_touches spans bit taken) in
      let none = are.bits.taken bit (is_either bit ∙ or_left _ (list_any (holds bit) whole_bits) taken) in
      rows_counted bit ∙ omega (arith, whole, none)

  -- a bit of a byte of which no field takes any is not unused
  untouched_used : (bit : ℕ) → bit < size * 8 → touched spans (bit / 8) ≡ false → count_by (holds bit) unused ≡ 0
  untouched_used bit inside none =
      let whole = whole_free (bit / 8) none (omega (arith, inside)) in
      are.bits.taken bit (is_either bit
      ∙ or_right (list_any (holds bit) spans) _ (counted_one (holds bit) whole_bits (whole_counted bit ∙ whole)))

  free_rows : (bit : ℕ) → bit < size * 8 → list_any (holds bit) spans ≡ false → count_by (holds bit) all_bits ≡ 1
  free_rows bit inside free = elim (cases_Bool (touched spans (bit / 8))) [
    | inl some ↦
        let whole = whole_touched (bit / 8) some in
        let none = counted_none (holds bit) whole_bits (whole_counted bit ∙ whole) in
        let one = are.bits.free bit inside (is_either bit ∙ or_from _ _ free none) in
        rows_counted bit ∙ omega (arith, whole, one)
    | inr none ↦
        let whole = whole_free (bit / 8) none (omega (arith, inside)) in
        rows_counted bit ∙ omega (arith, whole, untouched_used bit inside none)
  ]

  beyond_rows : (bit : ℕ) → size * 8 ≤ bit → count_by (holds bit) all_bits ≡ 0
  beyond_rows bit past =
      let hole = are.whole.beyond (bit / 8) (omega (arith, are.at.most, past)) in
      let last = gap_behind (bit / 8) tail size (omega (arith, past)) in
      rows_counted bit ∙ omega (arith, hole, last, are.bits.beyond bit past)

  -- what is true of all rows
  all_rows : (Q : Gap → Type 0) → All (λ hole. Q (hole_row hole)) holes
      → All (λ bytes. Q (tail_row bytes)) (gap_of tail size) → All (λ bits. Q (unused_row bits)) unused
      → All Q (whole_rows holes tail size ++ map unused_row unused)
  all_rows Q first second third =
      All-append Q (whole_rows holes tail size) (map unused_row unused)
      (All-append Q (map hole_row holes) (map tail_row (gap_of tail size)) (All-map Q hole_row holes first)
      (All-map Q tail_row (gap_of tail size) second))
      (All-map Q unused_row unused third)

  some_rows : All (λ (bits : Span). bits.start < bits.end) all_bits
  some_rows =
      let P : Span → Type 0 = λ bits. bits.start < bits.end in
      All-map P row_bits _ (all_rows (λ row. P row.bits)
      (All-weaker P (λ hole. P (bits_in hole)) (λ hole some. omega (arith, some)) holes are.whole.some)
      (All-weaker P (λ bytes. P (bits_in bytes)) (λ bytes some. omega (arith, some)) _ (gap_some tail size))
      are.bits.some)

  within_rows : All (λ (bits : Span). bits.end ≤ size * 8) all_bits
  within_rows =
      let P : Span → Type 0 = λ bits. bits.end ≤ size * 8 in
      let Q : ℕ → Span → Type 0 = λ most bytes. bytes.end ≤ most in
      let most = are.at.most in
      All-map P row_bits _ (all_rows (λ row. P row.bits)
      (All-weaker (Q tail) (λ hole. P (bits_in hole)) (λ hole within. omega (arith, within, most)) holes
      are.whole.within)
      (All-weaker (Q size) (λ bytes. P (bits_in bytes)) (λ bytes within. omega (arith, within)) _
      (gap_within tail size size (omega arith))) are.bits.within)

  -- ---- their kinds

  hole_kind : All (λ hole. IsHole spans virtual (bits_in hole)) holes
  hole_kind k d within = record {
    whole = are_whole (get_or holes k d);
    before = λ has.
        let hole = get_or holes k d in
        let end = greatest_end (map bytes_touched spans) in
        let below = are.at.before has in
        let some = are.whole.some k d within in
        let most = are.whole.within k d within in
        let touches = last_touched spans (omega (arith, some, most, below)) in
        let last = touched_taken spans (end - 1) touches in
        let place = last.1 in
        let other : hole.end ≤ end - 1 = elim (cases_lt (end - 1) hole.end) as (λ _. hole.end ≤ end - 1) [
          | inl less ↦
              let in_it = held_test (end - 1) hole.start hole.end (omega (arith, less, most, below, some)) less in
              absurd (counted_at (holds (end - 1)) holes k d within in_it (are.whole.taken (end - 1) touches))
          | inr more ↦ more
        ] in
        (last.0, omega (arith, place, other), last.2);
  }

  tail_kind : All (λ bytes. AreVirtualBases spans size virtual (bits_in bytes)) (gap_of tail size)
  tail_kind =
      let P : Span → Type 0 = λ bytes. AreVirtualBases spans size virtual (bits_in bytes) in
      gap_all P tail size (λ less.
      let after = are.at.after less in
      record {
        has = are.at.has less;
        whole = are_whole (record { start = tail; end = size });
        ends = refl;
        last = λ bit from. untouched_free spans bit (false_from_ne_true (touched spans (bit / 8)) (λ some.
            omega (arith, touched_below (map bytes_touched spans) (bit / 8) some, after, from)));
      })

  unused_kind : All (AreUnusedBits spans) unused
  unused_kind k d within bit here =
      let never = counted_at (holds bit) unused k d within here in
      elim (cases_Bool (touched spans (bit / 8))) [
        | inl some ↦ touched_taken spans (bit / 8) some
        | inr none ↦ elim (cases_lt bit (size * 8)) [
          | inl inside ↦ absurd (never (untouched_used bit inside none))
          | inr past ↦ absurd (never (are.bits.beyond bit past))
        ]
      ]

  found_are : AreGapRows spans size virtual (whole_rows holes tail size ++ map unused_row unused)
  found_are = record {
    gaps = record {
      free = free_rows;
      taken = taken_rows;
      beyond = beyond_rows;
      some = some_rows;
      within = within_rows;
    };
    kinds = all_rows (λ row. AreOfKind spans size virtual row.kind row.bits) hole_kind tail_kind unused_kind;
  }

-- the rows of a class
pub rows_are : (spans : List Span) (size : ℕ) (virtual : Bool) (tail : ℕ) (holes unused : List Span)
    → tail ≡ tail_start (map bytes_touched spans) size virtual → AreGaps (map bytes_touched spans) tail holes
    → AreGaps (spans ++ map row_bits (whole_rows holes tail size)) (size * 8) unused
    → AreGapRows spans size virtual (whole_rows holes tail size ++ map unused_row unused)
rows_are spans size virtual tail holes unused at whole bits =
    found_are spans size virtual tail holes unused
    (record { at = rw at (tail_by (map bytes_touched spans) size virtual); whole = whole; bits = bits })

-- where the virtual bases begin is within the class
pub tail_within : (bytes : List Span) (size : ℕ) (virtual : Bool) → tail_start bytes size virtual ≤ size
tail_within bytes size virtual = (tail_by bytes size virtual).most
