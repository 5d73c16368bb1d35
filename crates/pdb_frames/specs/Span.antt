-- The addresses that code covers, and the rest of a list of records from an address on.
use Rattle.std.specs.Prelude.{◌≡◌, ℕ, drop, map, slice_index, ◌-◌, Bool, ◌==◌, ◌&&◌, ◌||◌, nat_le, nat_lt}
use Rattle.std.specs.Prelude.{if◌then◌else◌, List, [], ◌∷◌, Option, Some, None, unwrap_or, option_and_then}
use Rattle.std.specs.Option.{option_or}

-- the address at which code begins, and its size in bytes
pub record Span : Type 0 where
  pub start : ℕ
  pub size : ℕ

-- the start of the code of the record at an index
abbrev pub start_at : {A : Type 0} → (A → Span) → List A → ℕ → ℕ
start_at span records place = slice_index (map (λ record_there. (span record_there).start) records) place

-- whether code covers an address, which is at or after its start, at a distance less than its size
abbrev pub covers : Span → ℕ → Bool
covers span address = nat_le span.start address && nat_lt (address - span.start) span.size

-- Whether a record starts at an address, or its code covers it. If starts increase, the records from an
-- address on begin with the last one that starts at or below it, if this holds for that one, and
-- otherwise with the one after it.
abbrev pub begins : Span → ℕ → Bool
begins span address = span.start == address || covers span address

-- the rest of a list from the first item that passes the test, or None if no item does
abbrev pub from_first : {A : Type 0} → (A → Bool) → List A → Option (List A)
from_first test [] = None
from_first test (x ∷ xs) = if test x then Some (x ∷ xs) else from_first test xs

-- the rest of a list from the last item that passes the test, or None if no item does
abbrev pub from_last : {A : Type 0} → (A → Bool) → List A → Option (List A)
from_last test [] = None
from_last test (x ∷ xs) = option_or (from_last test xs) (if test x then Some (x ∷ xs) else None)

-- the list, if its first item passes the test, and otherwise None
abbrev pub if_first : {A : Type 0} → (A → Bool) → List A → Option (List A)
if_first test [] = None
if_first test (x ∷ xs) = if test x then Some (x ∷ xs) else None

-- The rest of a list of records from an address on: from the first record that starts at the
-- address; otherwise from the last one that starts below it, if that one covers it; otherwise from
-- the first one that starts above it.
unfoldable pub from_address : {A : Type 0} → (A → Span) → ℕ → List A → List A
from_address {A} span address records =
    let at = from_first (λ (x : A). (span x).start == address) records in
    let below = option_and_then (if_first (λ (x : A). covers (span x) address))
    (from_last (λ (x : A). nat_lt (span x).start address) records) in
    let above = from_first (λ (x : A). nat_lt address (span x).start) records in
    unwrap_or (option_or at (option_or below above)) []

-- The result is the rest of a list from some item on, or from after the last one.
abbrev pub IsEnd : {A : Type 0} → List A → List A → Type 0
IsEnd result whole = (passed : ℕ) × (result ≡ drop passed whole)
