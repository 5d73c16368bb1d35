-- How far the fields of a class go.
use Rattle.std.specs.Prelude.{ℕ, ◌+◌, ◌*◌, Option, Some, None, Ok}
use Rattle.pdb_base.specs.Answer.{Answer, ◌>>=◌}
use Rattle.pdb_tpi.specs.Table.{Table}
use Rattle.pdb_values.specs.declared.bitfield.BitfieldType.{BitfieldType}
use Rattle.pdb_values.specs.TypeValue.{TypeValue, PlainValue, plain, bitfield}
use Rattle.pdb_types.specs.declared.extent.Extent.{Extent}
use Rattle.pdb_types.specs.declared.extent.Extent.TheVariants.{Bytes, Bits, Unknown}
use Rattle.pdb_types.specs.declared.span.Span.{Span}
use Rattle.pdb_types.specs.Size.{size_of}
use Rattle.pdb_types.specs.TypeAt.{type_at}

-- The bits of a field that begins at an offset in bytes, counted from the start of the class: all bits of the
-- bytes of its type; of a bit field those from its position on, as many as its length; and none if nothing says
-- how large its type is.
abbrev pub bits_of : ℕ → Extent → Span
bits_of offset (Bytes size) = record { start = offset * 8; end = offset * 8 + size * 8 }
bits_of offset (Bits field) = record {
  start = offset * 8 + field.position;
  end =
      offset * 8 + field.position + field.length;
}
bits_of offset Unknown = record { start = offset * 8; end = offset * 8 }

-- the extent of a field whose type has a size that may be known
abbrev pub extent_of_size : Option ℕ → Extent
extent_of_size (Some size) = Bytes size
extent_of_size None = Unknown

-- the bits that a type without a list takes, if it is a bit field
abbrev pub plain_field_bits : PlainValue → Option BitfieldType
plain_field_bits (bitfield field) = Some field
plain_field_bits value = None

-- the bits that a type takes if it is a bit field
abbrev pub field_bits : TypeValue → Option BitfieldType
field_bits (plain value) = plain_field_bits value
field_bits value = None

-- the extent of a field with the type of an index: those bits if there are any, and else the size of the type
abbrev pub extent_from : Table → ℕ → Option BitfieldType → Answer Extent
extent_from table index (Some field) = Ok (Bits field)
extent_from table index None = size_of table index >>= λ size. Ok (extent_of_size size)

-- the extent of a field with the type of an index: the bits of a bit field, and else the size of the type
unfoldable pub extent_at : Table → ℕ → Answer Extent
extent_at table index = type_at table index >>= λ value. extent_from table index (field_bits value)
