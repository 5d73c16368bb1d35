-- Sums and distances of numbers of 32 bits, which all addresses of an image are.
use Rattle.std.specs.Prelude.{ℕ, ◌+◌, ◌-◌, ◌%◌, ◌^◌, ◌≤◌, Option, Some, None, min, nat_le, if◌then◌else◌}

-- the largest number of 32 bits
abbrev pub largest : ℕ
largest = 0xffffffff

-- The number has at most 32 bits.
abbrev pub Fits : ℕ → Type 0
Fits number = number ≤ largest

-- the number if it fits in 32 bits, and otherwise None
abbrev pub if_fits_32_bits : ℕ → Option ℕ
if_fits_32_bits number = if nat_le number largest then Some number else None

-- the number if it fits in 32 bits, and otherwise the largest that does
abbrev pub clip_to_32_bits : ℕ → ℕ
clip_to_32_bits number = min number largest

-- the number in the lowest 32 bits of a number
abbrev pub wrap_to_32_bits : ℕ → ℕ
wrap_to_32_bits number = number % 2 ^ 32

-- how far after the start the number is, or None if it is before it
abbrev pub distance_from : ℕ → ℕ → Option ℕ
distance_from start number = if nat_le start number then Some (number - start) else None

-- how far after the start the number is, if 0 follows the largest number
abbrev pub wrapped_distance_from : ℕ → ℕ → ℕ
wrapped_distance_from start number = wrap_to_32_bits (number + 2 ^ 32 - start)
