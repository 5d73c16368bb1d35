-- Where the names of streams end: at the first NUL from their offsets on.
use Rattle.std.specs.Prelude.{ℕ, ◌*◌, ◌-◌, ◌<◌, List, length, get_or, Option, None}
use Rattle.memchr.specs.Find.{IsFirst, Passes, is_byte}

-- the first NUL among the names from an offset on
abbrev pub IsFirstNul : List ℕ → ℕ → Option ℕ → Type 0
IsFirstNul names offset nul = IsFirst (Passes (is_byte 0) names) offset (length names) nul

-- the number `n` of these is the first NUL among the last 512 * n bytes of the names
abbrev pub AreFirstNuls : List ℕ → List (Option ℕ) → Type 0
AreFirstNuls names nuls = (n : ℕ) → n < length nuls → IsFirstNul names (length names - 512 * n) (get_or nuls n None)
