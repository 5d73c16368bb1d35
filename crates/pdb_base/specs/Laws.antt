-- The definitions of `Answer`, `Reading`, `Numeric`, `Place`, `Halving` and `Records`, stated in other words.
use Rattle.std.specs.Prelude.{◌≡◌, ℕ, ◌%◌, ◌+◌, ◌*◌, ◌/◌, ◌<◌, ◌≤◌, ◌^◌, List, ◌∷◌, ◌++◌, length, map, drop, slice_get}
use Rattle.std.specs.Prelude.{Some, None, Ok, Err}
use Rattle.byteorder.specs.Endian.{little_bytes}
use Rattle.pdb_base.specs.Refusal.{Refusal, unexpected_eof, unexpected_numeric_prefix}
use Rattle.pdb_base.specs.Answer.{Answer, values_of_all}
use Rattle.pdb_base.specs.Place.{Place, align_to}
use Rattle.pdb_base.specs.Reading.{number_at, front_at, read_as}
use Rattle.pdb_base.specs.Records.{values_of_size}
use Rattle.pdb_base.specs.Numeric.{NumberKind, least_leaf, kind_behind}
use Rattle.pdb_base.specs.Spelling.{SpellsNumber, Begins}

-- Collecting answers gives a list of values if and only if each answer is a value, and
-- then it gives just these values.
abbrev pub CollectsAll : {A : Type 0} → List (Answer A) → Type 0
CollectsAll {A} answers =
    ((xs : List A) → values_of_all answers ≡ Ok xs → answers ≡ map (λ x. Ok x) xs)
    × ((xs : List A) → answers ≡ map (λ x. Ok x) xs → values_of_all answers ≡ Ok xs)

-- Collecting answers gives a refusal if and only if one of them is a refusal,
-- and then it gives the first one.
abbrev pub RefusesAsFirst : {A : Type 0} → List (Answer A) → Type 0
RefusesAsFirst {A} answers =
    ((e : Refusal) → values_of_all answers ≡ Err e → (before : List A) × (behind : List (Answer A))
    × (answers ≡ map (λ x. Ok x) before ++ Err e ∷ behind))
    × ((e : Refusal) (before : List A) (behind : List (Answer A)) → answers ≡ map (λ x. Ok x) before ++ Err e ∷ behind
    → values_of_all answers ≡ Err e)

-- If bytes begin with the little-endian spelling of a number, that number is read, with the rest. If there
-- are too few bytes, reading fails with `unexpected_eof`.
abbrev pub ReadsSpelling : ℕ → List ℕ → Type 0
ReadsSpelling width bytes =
    ((number : ℕ) (rest : List ℕ) → number < 256 ^ width → bytes ≡ little_bytes width number ++ rest
    → number_at width bytes ≡ Ok (number, rest))
    × (length bytes < width → number_at width bytes ≡ Err unexpected_eof)

-- The bytes begin with two bytes that should be a prefix, since they spell 0x8000 or more, but
-- are none of those in `leaves`.
pub record BeginsBadly (leaves : List (ℕ × NumberKind)) (bytes : List ℕ) (prefix : ℕ) : Type 0 where
  pub rest : List ℕ
  pub begins : Begins (SpellsNumber 2) bytes prefix rest
  pub large : least_leaf ≤ prefix
  pub unknown : kind_behind leaves prefix ≡ None

-- If bytes begin with an unknown prefix, reading fails with a refusal that names it. Otherwise it fails only
-- because the bytes end too soon.
pub record RefusesPrefixFirst {A : Type 0} (leaves : List (ℕ × NumberKind))
    (read : List ℕ → Answer (A × List ℕ)) : Type 0 where
  pub named : (bytes : List ℕ) (prefix : ℕ) → BeginsBadly leaves bytes prefix
      → read bytes ≡ Err (unexpected_numeric_prefix prefix)
  pub short : (bytes : List ℕ) (e : Refusal) → ((prefix : ℕ) → ¬ BeginsBadly leaves bytes prefix) → read bytes ≡ Err e
      → e ≡ unexpected_eof

-- `next` is the least multiple of a number at or above a place.
pub record IsNextMultiple (number place next : ℕ) : Type 0 where
  pub multiple : next % number ≡ 0
  pub above : place ≤ next
  pub least : (other : ℕ) → other % number ≡ 0 → place ≤ other → next ≤ other

-- A place moves to the least multiple of the alignment at or above it, or fails with `unexpected_eof` if
-- that is past the end of the slice.
pub record AlignsToNext (alignment : ℕ) (place : Place) : Type 0 where
  pub next : ℕ
  pub is_next : IsNextMultiple alignment place.pos next
  pub within : next ≤ length place.slice → align_to alignment place ≡ Ok (record place { pos = next })
  pub past : length place.slice < next → align_to alignment place ≡ Err unexpected_eof

-- The number fits in this many bits, and in no fewer.
pub record IsLeastToHold (number bits : ℕ) : Type 0 where
  pub held : number < 2 ^ bits
  pub least : (other : ℕ) → number < 2 ^ other → bits ≤ other

-- The bytes spell as many values as fit, and each is read where the one before it ends.
pub record AreReadInTurn {A : Type 0} (size : ℕ) (value : List ℕ → A) (bytes : List ℕ) : Type 0 where
  pub count : length (values_of_size size value bytes) ≡ length bytes / size
  pub each : (k : ℕ) (x : A) → slice_get (values_of_size size value bytes) k ≡ Some x
      → read_as value (front_at size (drop (size * k) bytes)) ≡ Ok (x, drop (size * (k + 1)) bytes)
