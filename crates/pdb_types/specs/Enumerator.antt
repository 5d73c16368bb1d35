-- The values of enumerators, as numbers of the types under their enumerations.
use Rattle.std.specs.Prelude.{ℕ, ◌%◌, ◌^◌, nat_lt, if◌then◌else◌, Option, Some, None, Ok, Err}
use Rattle.std.specs.Int.{w8, w16, w32, w64, cast_signed, cast_unsigned}
use Rattle.pdb_base.specs.Answer.{Answer}
use Rattle.pdb_base.specs.declared.variant.Variant.{Variant}
use Rattle.pdb_base.specs.declared.variant.Variant.TheVariants as variants
use Rattle.pdb_values.specs.declared.primitive.Indirection.{Indirection}
use Rattle.pdb_values.specs.declared.primitive.PrimitiveKind.{PrimitiveKind}
use Rattle.pdb_values.specs.declared.primitive.PrimitiveKind.TheVariants as kinds
use Rattle.pdb_values.specs.TypeValue.{TypeValue, PlainValue, plain, primitive}
use Rattle.pdb_values.specs.TypeView.{primitive_of}
use Rattle.pdb_types.specs.declared.enumerator.Integer.{Integer}
use Rattle.pdb_types.specs.declared.enumerator.Integer.TheVariants.{U8, U16, U32, U64, I8, I16, I32, I64}

-- the integers that are of a primitive type, of at most 64 bits; those of `char` have a sign, as Microsoft's compiler
-- has them unless it is told otherwise
abbrev pub integer_kind : PrimitiveKind → Option Integer
integer_kind kinds.UChar = Some U8
integer_kind kinds.U8 = Some U8
integer_kind kinds.Bool8 = Some U8
integer_kind kinds.WChar = Some U16
integer_kind kinds.RChar16 = Some U16
integer_kind kinds.UShort = Some U16
integer_kind kinds.U16 = Some U16
integer_kind kinds.Bool16 = Some U16
integer_kind kinds.RChar32 = Some U32
integer_kind kinds.ULong = Some U32
integer_kind kinds.U32 = Some U32
integer_kind kinds.Bool32 = Some U32
integer_kind kinds.UQuad = Some U64
integer_kind kinds.U64 = Some U64
integer_kind kinds.Bool64 = Some U64
integer_kind kinds.Char = Some I8
integer_kind kinds.RChar = Some I8
integer_kind kinds.I8 = Some I8
integer_kind kinds.Short = Some I16
integer_kind kinds.I16 = Some I16
integer_kind kinds.HRESULT = Some I32
integer_kind kinds.Long = Some I32
integer_kind kinds.I32 = Some I32
integer_kind kinds.Quad = Some I64
integer_kind kinds.I64 = Some I64
integer_kind kind = None

-- the integers that are of a primitive type, unless it is a pointer to one
abbrev pub integer_unless : Option Indirection → PrimitiveKind → Option Integer
integer_unless None kind = integer_kind kind
integer_unless (Some indirection) kind = None

-- the integers that are of a type without a list
abbrev pub plain_integer : PlainValue → Option Integer
plain_integer (primitive type) = integer_unless type.indirection type.kind
plain_integer value = None

-- the integers that are of a type
abbrev pub integer_in : TypeValue → Option Integer
integer_in (plain value) = plain_integer value
integer_in value = None

-- the integers that are of a type that may have none
abbrev pub integer_if : Answer TypeValue → Option Integer
integer_if (Ok value) = integer_in value
integer_if (Err refusal) = None

-- the integers that are of the type of an index, if it is a primitive one
unfoldable pub integer_under : ℕ → Option Integer
integer_under index = if nat_lt index 0x1000 then integer_if (primitive_of index) else None

-- a number in 64 bits, in two's complement if it is below 0; one byte is an LF_CHAR of Microsoft's cvinfo.h, which has
-- a sign
abbrev pub value_bits : Variant → ℕ
value_bits (variants.U8 n) = cast_unsigned w64 (cast_signed w8 n)
value_bits (variants.U16 n) = n
value_bits (variants.U32 n) = n
value_bits (variants.U64 n) = n
value_bits (variants.I8 n) = cast_unsigned w64 n
value_bits (variants.I16 n) = cast_unsigned w64 n
value_bits (variants.I32 n) = cast_unsigned w64 n
value_bits (variants.I64 n) = cast_unsigned w64 n

-- the number of an integer type that has the lowest of these bits
abbrev pub value_as : ℕ → Integer → Variant
value_as bits U8 = variants.U8 (bits % 0x100)
value_as bits U16 = variants.U16 (bits % 0x1_0000)
value_as bits U32 = variants.U32 (bits % 0x1_0000_0000)
value_as bits U64 = variants.U64 bits
value_as bits I8 = variants.I8 (cast_signed w8 (bits % 0x100))
value_as bits I16 = variants.I16 (cast_signed w16 (bits % 0x1_0000))
value_as bits I32 = variants.I32 (cast_signed w32 (bits % 0x1_0000_0000))
value_as bits I64 = variants.I64 (cast_signed w64 bits)

-- a value as a number of these integers
abbrev pub value_if : Variant → Option Integer → Variant
value_if value (Some integer) = value_as (value_bits value) integer
value_if value None = value

-- the value of an enumerator, as a number of the type of an index
abbrev pub enumerator_value : Variant → ℕ → Variant
enumerator_value value index = value_if value (integer_under index)
