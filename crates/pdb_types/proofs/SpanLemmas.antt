-- The gaps between sorted spans.
use Rattle.std.proofs.Common.{◌≡◌, inl, inr, ℕ, ◌+◌, ◌<◌, ◌≤◌, min, max, List, [], ◌++◌, length, get_or, take, refl}
use Rattle.std.proofs.Common.{sym, ap, ◌∙◌, arith, Bool, true, false, ◌&&◌, ◌||◌, cond, ltb, leb}
use Rattle.std.specs.List.{All, count_by, list_any}
use Rattle.std.specs.List.Sorted.{IsNonDecreasingBy, IsPermutation}
use Rattle.std.proofs.lemmas.Bool.{cases_lt, cases_Bool, both_ways, and_from, and_left, and_right, or_parts, or_from}
use Rattle.std.proofs.lemmas.Bool.{lt-ltb, le-ltb, le-leb, lt-leb, true_from_ne_false}
use Rattle.std.proofs.lemmas.List.{get_or_default, take_all}
use Rattle.std.proofs.lemmas.List.Elements.{All-append, All-cons, All-nil}
use Rattle.std.proofs.lemmas.List.Folds.{list_any_more}
use Rattle.std.proofs.lemmas.List.Sorted.{list_any-IsPermutation}
use Rattle.std.proofs.lemmas.List.Sums.{sum_by-append}
use Rattle.pdb_types.specs.declared.span.Span.{Span}
use Rattle.pdb_types.specs.Span.{AreGaps, gap_of, holds}

-- ---- one gap

pub counted_more : (place : ℕ) (gaps more : List Span)
    → count_by (holds place) (gaps ++ more) ≡ count_by (holds place) gaps + count_by (holds place) more
counted_more place gaps more = sum_by-append (λ (span : Span). cond (holds place span) 1 0) gaps more

pub held_test : (place start end : ℕ) → start ≤ place → place < end → (leb start place && ltb place end) ≡ true
held_test place start end from to = and_from (leb start place) (ltb place end) (le-leb start place from)
    (lt-ltb place end to)

pub before_test : (place start end : ℕ) → place < start → (leb start place && ltb place end) ≡ false
before_test place start end before = and_left (leb start place) (ltb place end) (lt-leb start place before)

pub behind_test : (place start end : ℕ) → end ≤ place → (leb start place && ltb place end) ≡ false
behind_test place start end behind = and_right (leb start place) (ltb place end) (le-ltb place end behind)

pub gap_holds : (place start end : ℕ) → start ≤ place → place < end → count_by (holds place) (gap_of start end) ≡ 1
gap_holds place start end from to =
    let some : ltb start end ≡ true = lt-ltb start end (omega (arith, from, to)) in
    rw some (rw (held_test place start end from to) refl)

pub gap_before : (place start end : ℕ) → place < start → count_by (holds place) (gap_of start end) ≡ 0
gap_before place start end before = elim (cases_Bool (ltb start end)) [
  | inl some ↦ rw some (rw (before_test place start end before) refl)
  | inr none ↦ rw none refl
]

pub gap_behind : (place start end : ℕ) → end ≤ place → count_by (holds place) (gap_of start end) ≡ 0
gap_behind place start end behind = elim (cases_Bool (ltb start end)) [
  | inl some ↦ rw some (rw (behind_test place start end behind) refl)
  | inr none ↦ rw none refl
]

-- what is true of the only gap that there may be
pub gap_all : (P : Span → Type 0) (start end : ℕ) → (start < end → P (record { start = start; end = end }))
    → All P (gap_of start end)
gap_all P start end is = elim (cases_lt start end) [
  | inl some ↦ rw (lt-ltb start end some) (All-cons P (record { start = start; end = end }) [] (is some) (All-nil P))
  | inr none ↦ rw (le-ltb start end none) (All-nil P)
]

pub gap_some : (start end : ℕ) → All (λ (gap : Span). gap.start < gap.end) (gap_of start end)
gap_some start end = gap_all (λ gap. gap.start < gap.end) start end (λ some. some)

pub gap_within : (start end most : ℕ) → end ≤ most → All (λ (gap : Span). gap.end ≤ most) (gap_of start end)
gap_within start end most below = gap_all (λ gap. gap.end ≤ most) start end (λ some. below)

-- ---- the gaps between the first spans

abbrev pub holders : ℕ → ℕ → List Span → Bool
holders place k spans = list_any (holds place) (take k spans)

-- The gaps between the first `k` spans were found up to a place: no span of them goes on there, and a later
-- span has no place before it that they don't have.
pub record AreGapsTo (spans : List Span) (end k at : ℕ) (gaps : List Span) : Type 0 where
  pub free : (place : ℕ) → place < at → place < end → holders place k spans ≡ false → count_by (holds place) gaps ≡ 1
  pub taken : (place : ℕ) → place < at → holders place k spans ≡ true → count_by (holds place) gaps ≡ 0
  pub beyond : (place : ℕ) → end ≤ place → count_by (holds place) gaps ≡ 0
  pub ahead : (place : ℕ) → at ≤ place → count_by (holds place) gaps ≡ 0
  pub over : (place : ℕ) → at ≤ place → holders place k spans ≡ false
  pub later : (place i : ℕ) (d : Span) → place < at → holders place k spans ≡ false → k ≤ i → i < length spans
      → holds place (get_or spans i d) ≡ false
  pub some : All (λ gap. gap.start < gap.end) gaps
  pub within : All (λ gap. gap.end ≤ end) gaps

abbrev pub next_at : ℕ → ℕ → ℕ → ℕ
next_at at start end = max (max at start) end

one_more : (spans : List Span) (k place : ℕ) (span : Span) → k < length spans → get_or spans k span ≡ span
    → holders place (k + 1) spans ≡ (holders place k spans || holds place span)
one_more spans k place span within here = list_any_more (holds place) spans k span within
    ∙ ap (λ (s : Span). holders place k spans || holds place s) here

pub gaps_more : (spans : List Span) (end k at : ℕ) (gaps : List Span) (span : Span)
    → IsNonDecreasingBy (λ span. span.start) spans → AreGapsTo spans end k at gaps → k < length spans
    → get_or spans k span ≡ span
    → AreGapsTo spans end (k + 1) (next_at at span.start span.end) (gaps ++ gap_of at (min span.start end))
gaps_more spans end k at gaps span order are within here =
    let stop = min span.start end in
    let next = next_at at span.start span.end in
    let gap = gap_of at stop in
    let sum = λ (place : ℕ). counted_more place gaps gap in
    let none_in : (place : ℕ) → holders place (k + 1) spans ≡ false → (holders place k spans ≡ false)
    × (holds place span ≡ false) =
    λ place none. or_parts (holders place k spans) (holds place span)
    (sym (one_more spans k place span within here) ∙ none) in
    let start_there : (d : Span) → (get_or spans k d).start ≡ span.start =
    λ d. ap (λ (s : Span). s.start) (get_or_default spans k d span within ∙ here) in
    let keeps : (place : ℕ) → place < at → holders place (k + 1) spans ≡ true → holders place k spans ≡ true =
    λ place before some. true_from_ne_false (holders place k spans) (λ other.
    let not_here : holds place span ≡ false = rw here at (are.later place k span before other (omega arith) within) in
    both_ways (holders place (k + 1) spans) (one_more spans k place span within here
    ∙ or_from (holders place k spans) (holds place span) other not_here) some) in
    let early : (place : ℕ) → at ≤ place → place < next → holds place span ≡ false → place < span.start =
    λ place new before free. elim (cases_lt place span.start) as (λ _. place < span.start) [
      | inl already ↦ already
      | inr from ↦ absurd (both_ways (holds place span) free
          (held_test place span.start span.end from (omega (arith, before, new, from))))
    ] in
    record {
      free = λ place before inside none.
          let parts = none_in place none in
          elim (cases_lt place at) [
            | inl old ↦
                omega (arith, sum place, are.free place old inside parts.0, gap_before place at stop old)
            | inr new ↦
                let low = early place new before parts.1 in
                omega (arith, sum place, are.ahead place new, gap_holds place at stop new (omega (arith, low, inside)))
          ];
      taken = λ place before some. elim (cases_lt place at) [
        | inl old ↦
            omega (arith, sum place, are.taken place old (keeps place old some), gap_before place at stop old)
        | inr new ↦
            let late : span.start ≤ place = elim (cases_lt place span.start) as (λ _. span.start ≤ place) [
              | inl early ↦
                  absurd (both_ways (holders place (k + 1) spans)
                  (one_more spans k place span within here ∙ or_from (holders place k spans) (holds place span)
                  (are.over place new) (before_test place span.start span.end early)) some)
              | inr from ↦ from
            ] in
            omega (arith, sum place, are.ahead place new, gap_behind place at stop (omega (arith, late)))
      ];
      beyond = λ place past.
          omega (arith, sum place, are.beyond place past, gap_behind place at stop (omega (arith, past)));
      ahead = λ place from.
          let past : at ≤ place = omega (arith, from) in
          omega (arith, sum place, are.ahead place past, gap_behind place at stop (omega (arith, from)));
      over = λ place from.
          one_more spans k place span within here
          ∙ or_from (holders place k spans) (holds place span) (are.over place (omega (arith, from)))
          (behind_test place span.start span.end (omega (arith, from)));
      later = λ place i d before none after inside.
          let parts = none_in place none in
          elim (cases_lt place at) [
            | inl old ↦ are.later place i d old parts.0 (omega (arith, after)) inside
            | inr new ↦
                let low = early place new before parts.1 in
                let up = order k i d (omega (arith, after)) inside in
                let its = start_there d in
                before_test place (get_or spans i d).start (get_or spans i d).end (omega (arith, up, its, low))
          ];
      some = All-append (λ (gap : Span). gap.start < gap.end) gaps gap are.some (gap_some at stop);
      within = All-append (λ (gap : Span). gap.end ≤ end) gaps gap are.within (gap_within at stop end (omega arith));
    }

-- and the last one
pub gaps_end : (spans : List Span) (end k at : ℕ) (gaps : List Span) → AreGapsTo spans end k at gaps → length spans ≤ k
    → AreGaps spans end (gaps ++ gap_of at end)
gaps_end spans end k at gaps are past =
    let gap = gap_of at end in
    let sum = λ (place : ℕ). counted_more place gaps gap in
    let all : (place : ℕ) → holders place k spans ≡ list_any (holds place) spans =
    λ place. ap (list_any (holds place)) (take_all k spans past) in
    record {
      free = λ place inside none. elim (cases_lt place at) [
        | inl old ↦
            omega (arith, sum place, are.free place old inside (all place ∙ none), gap_before place at end old)
        | inr new ↦
            omega (arith, sum place, are.ahead place new, gap_holds place at end new inside)
      ];
      taken = λ place some. elim (cases_lt place at) [
        | inl old ↦
            omega (arith, sum place, are.taken place old (all place ∙ some), gap_before place at end old)
        | inr new ↦ absurd (both_ways (list_any (holds place) spans) (sym (all place) ∙ are.over place new) some)
      ];
      beyond = λ place past'.
          omega (arith, sum place, are.beyond place past', gap_behind place at end past');
      some = All-append (λ (gap : Span). gap.start < gap.end) gaps gap are.some (gap_some at end);
      within = All-append (λ (gap : Span). gap.end ≤ end) gaps gap are.within (gap_within at end end (omega arith));
    }

-- the order of the spans doesn't matter
pub gaps_moved : (spans sorted : List Span) (end : ℕ) (gaps : List Span) → IsPermutation spans sorted
    → AreGaps sorted end gaps → AreGaps spans end gaps
gaps_moved spans sorted end gaps moved are = record {
  free = λ place inside none. are.free place inside
      (sym (list_any-IsPermutation (holds place) spans sorted moved) ∙ none);
  taken = λ place some. are.taken place (sym (list_any-IsPermutation (holds place) spans sorted moved) ∙ some);
  beyond = are.beyond;
  some = are.some;
  within = are.within;
}
