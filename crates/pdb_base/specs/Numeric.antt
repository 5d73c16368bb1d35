-- Numbers of variable width. A number below 0x8000 stands for itself, in two bytes. Any other follows a
-- prefix of two bytes that says its kind: a numeric leaf of Microsoft's cvinfo.h.
use Rattle.std.specs.Prelude.{ℕ, Bool, true, false, ◌==◌, nat_lt, if◌then◌else◌, List, [], ◌∷◌, filter, Option, Some}
use Rattle.std.specs.Prelude.{None, Ok, Err}
use Rattle.std.specs.Fmt.{decimal, signed_decimal}
use Rattle.std.specs.Int.{w16, w32, w64, cast_signed}
use Rattle.std.specs.Map.{lookup}
use Rattle.pdb_base.specs.declared.variant.Variant.{Variant}
use Rattle.pdb_base.specs.declared.variant.Variant.TheVariants as variants
use Rattle.pdb_base.specs.Refusal.{unexpected_numeric_prefix}
use Rattle.pdb_base.specs.Answer.{Answer, ◌>>=◌}
use Rattle.pdb_base.specs.Reading.{number_at}

-- the kinds of number that can follow a prefix
pub data NumberKind : Type 0 where
  u8 u16 u32 u64 i16 i32 i64 : NumberKind

-- Each prefix and the kind of number that follows it. LF_CHAR is unsigned here,
-- though it is signed in cvinfo.h.
abbrev pub numeric_leaves : List (ℕ × NumberKind)
numeric_leaves =
    (0x8000, u8)  -- LF_CHAR
    ∷ (0x8001, i16)  -- LF_SHORT
    ∷ (0x8002, u16)  -- LF_USHORT
    ∷ (0x8003, i32)  -- LF_LONG
    ∷ (0x8004, u32)  -- LF_ULONG
    ∷ (0x8009, i64)  -- LF_QUADWORD
    ∷ (0x800a, u64)  -- LF_UQUADWORD
    ∷ []

-- LF_NUMERIC, the least number that does not stand for itself
abbrev pub least_leaf : ℕ
least_leaf = 0x8000

-- whether numbers of this kind are unsigned
abbrev pub is_unsigned : NumberKind → Bool
is_unsigned i16 = false
is_unsigned i32 = false
is_unsigned i64 = false
is_unsigned kind = true

-- the prefixes of the unsigned numbers
abbrev pub unsigned_leaves : List (ℕ × NumberKind)
unsigned_leaves = filter (λ leaf. is_unsigned leaf.1) numeric_leaves

-- the kind of number that follows a prefix, if the prefix is one of these leaves
abbrev pub kind_behind : List (ℕ × NumberKind) → ℕ → Option NumberKind
kind_behind leaves prefix = lookup (λ leaf. leaf == prefix) leaves

-- how many bytes a number of this kind has
abbrev pub number_width : NumberKind → ℕ
number_width u8 = 1
number_width u16 = 2
number_width u32 = 4
number_width u64 = 8
number_width i16 = 2
number_width i32 = 4
number_width i64 = 8

-- a number as its bytes hold it: its kind, and its bits as an unsigned number
pub record Numeral : Type 0 where
  pub kind : NumberKind
  pub number : ℕ

-- the number of this kind that has these bits
abbrev pub variant_of_kind : NumberKind → ℕ → Variant
variant_of_kind u8 number = variants.U8 number
variant_of_kind u16 number = variants.U16 number
variant_of_kind u32 number = variants.U32 number
variant_of_kind u64 number = variants.U64 number
variant_of_kind i16 number = variants.I16 (cast_signed w16 number)
variant_of_kind i32 number = variants.I32 (cast_signed w32 number)
variant_of_kind i64 number = variants.I64 (cast_signed w64 number)

-- the number as a `Variant`
abbrev pub variant_of : Numeral → Variant
variant_of numeral = variant_of_kind numeral.kind numeral.number

-- the number of that kind at the front of bytes; a prefix that says no kind is refused
abbrev pub number_of_kind : ℕ → Option NumberKind → List ℕ → Answer (Numeral × List ℕ)
number_of_kind prefix None bytes = Err (unexpected_numeric_prefix prefix)
number_of_kind prefix (Some kind) bytes = number_at (number_width kind) bytes
    >>= λ number. Ok (record { kind = kind; number = number.0 }, number.1)

-- the number whose first two bytes are `prefix`: `prefix` itself if it is below 0x8000, and
-- otherwise the number that follows it
unfoldable pub numeral_behind : List (ℕ × NumberKind) → ℕ → List ℕ → Answer (Numeral × List ℕ)
numeral_behind leaves prefix bytes =
    if nat_lt prefix least_leaf then Ok (record { kind = u16; number = prefix }, bytes) else number_of_kind prefix
    (kind_behind leaves prefix) bytes

-- the number of variable width at the front of bytes, with these leaves as its prefixes
unfoldable pub numeral_at : List (ℕ × NumberKind) → List ℕ → Answer (Numeral × List ℕ)
numeral_at leaves bytes = do
  prefix ← number_at 2 bytes
  numeral_behind leaves prefix.0 prefix.1

-- what was read, as an unsigned number
abbrev pub as_num : Answer (Numeral × List ℕ) → Answer (ℕ × List ℕ)
as_num found = found >>= λ numeral. Ok (numeral.0.number, numeral.1)

-- what was read, as a `Variant`
abbrev pub as_variant : Answer (Numeral × List ℕ) → Answer (Variant × List ℕ)
as_variant found = found >>= λ numeral. Ok (variant_of numeral.0, numeral.1)

-- the unsigned number of variable width at the front of bytes
unfoldable pub num_at : List ℕ → Answer (ℕ × List ℕ)
num_at bytes = as_num (numeral_at unsigned_leaves bytes)

-- the number of variable width at the front of bytes, as a `Variant`
unfoldable pub variant_at : List ℕ → Answer (Variant × List ℕ)
variant_at bytes = as_variant (numeral_at numeric_leaves bytes)

-- how a number is printed: in decimal
abbrev pub variant_text : Variant → List ℕ
variant_text (variants.U8 number) = decimal number
variant_text (variants.U16 number) = decimal number
variant_text (variants.U32 number) = decimal number
variant_text (variants.U64 number) = decimal number
variant_text (variants.I8 number) = signed_decimal number
variant_text (variants.I16 number) = signed_decimal number
variant_text (variants.I32 number) = signed_decimal number
variant_text (variants.I64 number) = signed_decimal number
