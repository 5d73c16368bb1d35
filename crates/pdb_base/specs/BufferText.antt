-- How a buffer is printed: the bytes of its slice as in a literal, and its position.
use Rattle.std.specs.Prelude.{ℕ, ◌-◌, List, ◌++◌, length, replicate, flat_map, false, codes}
use Rattle.std.specs.Fmt.{decimal, digits}
use Rattle.pdb_base.specs.ErrorText.{digit_zero}
use Rattle.pdb_base.specs.Place.{Place}

-- a byte as `\x` and two lower-case hexadecimal digits
abbrev pub escape_of : ℕ → List ℕ
escape_of byte = codes "\\x" ++ replicate (2 - length (digits 16 false byte)) digit_zero ++ digits 16 false byte

-- the whole slice, however much of it was read, and the position in decimal
abbrev pub buffer_text : Place → List ℕ
buffer_text place = codes "ParseBuf::from(\"" ++ flat_map escape_of place.slice ++ codes "\").as_bytes() at offset "
    ++ decimal place.pos
