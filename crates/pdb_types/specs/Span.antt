-- Spans of places, and the gaps between them.
use Rattle.std.specs.Prelude.{◌≡◌, ℕ, ◌<◌, ◌≤◌, Bool, true, false, ◌&&◌, nat_lt, nat_le, if◌then◌else◌, List, [], ◌∷◌}
use Rattle.std.specs.List.{All, count_by, list_any}
use Rattle.pdb_types.specs.declared.span.Span.{Span}

-- whether a place is in a span
abbrev pub holds : ℕ → Span → Bool
holds place span = nat_le span.start place && nat_lt place span.end

-- Gaps are those of spans up to an end: each place before the end that is in no span is in exactly one gap,
-- and a place that is in a span, or isn't before the end, is in no gap. Each gap has a place, and ends there at
-- the latest.
pub record AreGaps (spans : List Span) (end : ℕ) (gaps : List Span) : Type 0 where
  pub free : (place : ℕ) → place < end → list_any (holds place) spans ≡ false → count_by (holds place) gaps ≡ 1
  pub taken : (place : ℕ) → list_any (holds place) spans ≡ true → count_by (holds place) gaps ≡ 0
  pub beyond : (place : ℕ) → end ≤ place → count_by (holds place) gaps ≡ 0
  pub some : All (λ gap. gap.start < gap.end) gaps
  pub within : All (λ gap. gap.end ≤ end) gaps

-- the gap from a place to another, if there is one
abbrev pub gap_of : ℕ → ℕ → List Span
gap_of start end = if nat_lt start end then record { start = start; end = end } ∷ [] else []
