-- The indexes below 0x1000, which stand for types without a record. The low byte of an index gives the
-- type, and the four bits above it give whether the index stands for a pointer to that type, and for
-- which kind of pointer. The numbers are those of `TYPE_ENUM_e` and `CV_prmode_e` in Microsoft's
-- cvinfo.h.
use Rattle.std.specs.Prelude.{ℕ, ◌==◌, List, [], ◌∷◌, Option, Some, None, Ok, Err}
use Rattle.std.specs.Map.{lookup}
use Rattle.pdb_base.specs.Bits.{bits}
use Rattle.pdb_base.specs.Refusal.{type_not_found}
use Rattle.pdb_base.specs.Answer.{Answer, ◌>>=◌}
use Rattle.pdb_values.specs.declared.primitive.TheConstants.{FIRST_RECORD}
use Rattle.pdb_values.specs.declared.primitive.Indirection.{Indirection}
use Rattle.pdb_values.specs.declared.primitive.Indirection.TheVariants.{Near16, Far16, Huge16, Near32, Far32, Near64}
use Rattle.pdb_values.specs.declared.primitive.Indirection.TheVariants.{Near128}
use Rattle.pdb_values.specs.declared.primitive.PrimitiveKind.{PrimitiveKind}
use Rattle.pdb_values.specs.declared.primitive.PrimitiveKind.TheVariants as kinds
use Rattle.pdb_values.specs.declared.primitive.PrimitiveType.{PrimitiveType}

-- the least index of a type that has a record
abbrev pub first_record : ℕ
first_record = FIRST_RECORD

-- each number that the low byte can have, and the type that it stands for
abbrev pub primitive_kinds : List (ℕ × PrimitiveKind)
primitive_kinds =
    (0x00, kinds.NoType)  -- T_NOTYPE
    ∷ (0x03, kinds.Void)  -- T_VOID
    ∷ (0x08, kinds.HRESULT)  -- T_HRESULT
    ∷ (0x10, kinds.Char)  -- T_CHAR
    ∷ (0x11, kinds.Short)  -- T_SHORT
    ∷ (0x12, kinds.Long)  -- T_LONG
    ∷ (0x13, kinds.Quad)  -- T_QUAD
    ∷ (0x14, kinds.Octa)  -- T_OCT
    ∷ (0x20, kinds.UChar)  -- T_UCHAR
    ∷ (0x21, kinds.UShort)  -- T_USHORT
    ∷ (0x22, kinds.ULong)  -- T_ULONG
    ∷ (0x23, kinds.UQuad)  -- T_UQUAD
    ∷ (0x24, kinds.UOcta)  -- T_UOCT
    ∷ (0x30, kinds.Bool8)  -- T_BOOL08
    ∷ (0x31, kinds.Bool16)  -- T_BOOL16
    ∷ (0x32, kinds.Bool32)  -- T_BOOL32
    ∷ (0x33, kinds.Bool64)  -- T_BOOL64
    ∷ (0x40, kinds.F32)  -- T_REAL32
    ∷ (0x41, kinds.F64)  -- T_REAL64
    ∷ (0x42, kinds.F80)  -- T_REAL80
    ∷ (0x43, kinds.F128)  -- T_REAL128
    ∷ (0x44, kinds.F48)  -- T_REAL48
    ∷ (0x45, kinds.F32PP)  -- T_REAL32PP
    ∷ (0x46, kinds.F16)  -- T_REAL16
    ∷ (0x50, kinds.Complex32)  -- T_CPLX32
    ∷ (0x51, kinds.Complex64)  -- T_CPLX64
    ∷ (0x52, kinds.Complex80)  -- T_CPLX80
    ∷ (0x53, kinds.Complex128)  -- T_CPLX128
    ∷ (0x68, kinds.I8)  -- T_INT1
    ∷ (0x69, kinds.U8)  -- T_UINT1
    ∷ (0x70, kinds.RChar)  -- T_RCHAR
    ∷ (0x71, kinds.WChar)  -- T_WCHAR
    ∷ (0x72, kinds.I16)  -- T_INT2
    ∷ (0x73, kinds.U16)  -- T_UINT2
    ∷ (0x74, kinds.I32)  -- T_INT4
    ∷ (0x75, kinds.U32)  -- T_UINT4
    ∷ (0x76, kinds.I64)  -- T_INT8
    ∷ (0x77, kinds.U64)  -- T_UINT8
    ∷ (0x78, kinds.I128)  -- T_INT16
    ∷ (0x79, kinds.U128)  -- T_UINT16
    ∷ (0x7a, kinds.RChar16)  -- T_CHAR16
    ∷ (0x7b, kinds.RChar32)  -- T_CHAR32
    ∷ []

-- each number of a mode, and the kind of pointer that it stands for, if it stands for one
abbrev pub indirections : List (ℕ × Option Indirection)
indirections =
    (0, None)  -- CV_TM_DIRECT
    ∷ (1, Some Near16)  -- CV_TM_NPTR
    ∷ (2, Some Far16)  -- CV_TM_FPTR
    ∷ (3, Some Huge16)  -- CV_TM_HPTR
    ∷ (4, Some Near32)  -- CV_TM_NPTR32
    ∷ (5, Some Far32)  -- CV_TM_FPTR32
    ∷ (6, Some Near64)  -- CV_TM_NPTR64
    ∷ (7, Some Near128)  -- CV_TM_NPTR128
    ∷ []

-- the value that was found for an index, or the refusal `type_not_found` if there is none
abbrev pub value_or_not_found : {A : Type 0} → ℕ → Option A → Answer A
value_or_not_found index (Some x) = Ok x
value_or_not_found index None = Err (type_not_found index)

-- the value beside this number in a table, if there is one
abbrev pub beside_number : {A : Type 0} → List (ℕ × A) → ℕ → Option A
beside_number rows number = lookup (λ row. row == number) rows

-- the type that the low byte of an index stands for, or the refusal `type_not_found`
unfoldable pub primitive_kind : ℕ → Answer PrimitiveKind
primitive_kind index = value_or_not_found index (beside_number primitive_kinds (bits index 0 8))

-- the kind of pointer that bits 8 to 11 of an index stand for, if they stand for one, or the refusal
-- `type_not_found` if no mode has their number
unfoldable pub primitive_indirection : ℕ → Answer (Option Indirection)
primitive_indirection index = value_or_not_found index (beside_number indirections (bits index 8 4))

-- the primitive type that an index stands for, or the refusal `type_not_found` if it stands for none
unfoldable pub primitive_type : ℕ → Answer PrimitiveType
primitive_type index = do
  kind ← primitive_kind index
  indirection ← primitive_indirection index
  Ok (record { kind = kind; indirection = indirection })
