-- What the header of a section says (the layout of `IMAGE_SECTION_HEADER` in the PE format).
use Rattle.std.specs.Prelude.{ℕ, ◌-◌, ◌^◌, ◌==◌, ◌&&◌, nat_le, if◌then◌else◌, List, take, drop, Option, Some, None, Ok}
use Rattle.std.specs.List.{before_first}
use Rattle.pdb_base.specs.Endian.{little_number}
use Rattle.pdb_base.specs.Bits.{bits}
use Rattle.pdb_base.specs.Answer.{Answer, ◌>>=◌}
use Rattle.pdb_base.specs.Reading.{front_at}
use Rattle.pdb_space.specs.declared.section_header.ImageSectionHeader.{ImageSectionHeader}

-- The alignment that the flags give: bits 20 to 23 hold the exponent of the power of two plus one, from 1 to
-- 14, and bit 3 without these is the older form of 1. Any other flags give none.
unfoldable pub alignment_of : ℕ → Option ℕ
alignment_of word =
    let exponent = bits word 20 4 in
    if bits word 3 1 == 1 then (if exponent == 0 then Some 1 else None)
    else (if nat_le 1 exponent && nat_le exponent 14 then Some (2 ^ (exponent - 1)) else None)

-- the header in forty bytes
unfoldable pub section_header : List ℕ → ImageSectionHeader
section_header bytes = record {
  name = take 8 bytes;
  virtual_size = little_number 4 (drop 8 bytes);
  virtual_address = little_number 4 (drop 12 bytes);
  size_of_raw_data = little_number 4 (drop 16 bytes);
  pointer_to_raw_data = little_number 4 (drop 20 bytes);
  pointer_to_relocations = little_number 4 (drop 24 bytes);
  pointer_to_line_numbers = little_number 4 (drop 28 bytes);
  number_of_relocations = little_number 2 (drop 32 bytes);
  number_of_line_numbers = little_number 2 (drop 34 bytes);
  characteristics = record { 0 = little_number 4 (drop 36 bytes) };
}

-- the header at the front of bytes, and the bytes after it
unfoldable pub section_header_at : List ℕ → Answer (ImageSectionHeader × List ℕ)
section_header_at bytes = do
  front ← front_at 40 bytes
  Ok (section_header front.0, front.1)

-- the bytes of a section's name: those before the first NUL, or all eight
abbrev pub section_name : ImageSectionHeader → List ℕ
section_name header = before_first (λ byte. byte == 0) header.name
