-- Identifiers.
use Rattle.std.specs.Prelude.{ℕ, Bool, ◌||◌, ◌&&◌, ◌==◌, nat_le}

-- whether a byte may stand in an identifier: a digit, a letter or `_`
abbrev pub is_letter : ℕ → Bool
is_letter byte = (nat_le 48 byte && nat_le byte 57 || (nat_le 65 byte && nat_le byte 90
    || nat_le 97 byte && nat_le byte 122)) || (byte == 95)
