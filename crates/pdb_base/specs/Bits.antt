-- Bit fields of a word, whose lowest bit is at place 0.
use Rattle.std.specs.Prelude.{ℕ, Bool, ◌^◌, ◌/◌, ◌%◌, ◌==◌}

-- the number in `count` bits of a word, from bit `place` on; place 0 is the lowest bit
unfoldable pub bits : ℕ → ℕ → ℕ → ℕ
bits word place count = (word / 2 ^ place) % 2 ^ count

-- whether the bit at a place is set
abbrev pub is_bit_set : ℕ → ℕ → Bool
is_bit_set word place = bits word place 1 == 1
