-- The sizes of primitive types in bytes: the numbers of bits that the comments on `TYPE_ENUM_e` and
-- `CV_prmode_e` of Microsoft's cvinfo.h state, divided by 8.
use Rattle.std.specs.Prelude.{ℕ, Option, Some, None}
use Rattle.pdb_values.specs.declared.primitive.Indirection.{Indirection}
use Rattle.pdb_values.specs.declared.primitive.Indirection.TheVariants.{Near16, Far16, Huge16, Near32, Far32, Near64}
use Rattle.pdb_values.specs.declared.primitive.Indirection.TheVariants.{Near128}
use Rattle.pdb_values.specs.declared.primitive.PrimitiveKind.{PrimitiveKind}
use Rattle.pdb_values.specs.declared.primitive.PrimitiveKind.TheVariants.{NoType, Void, HRESULT, Char, UChar, I8, U8}
use Rattle.pdb_values.specs.declared.primitive.PrimitiveKind.TheVariants.{RChar, WChar, RChar16, RChar32, Short, UShort}
use Rattle.pdb_values.specs.declared.primitive.PrimitiveKind.TheVariants.{I16, U16, Long, ULong, I32, U32, Quad, UQuad}
use Rattle.pdb_values.specs.declared.primitive.PrimitiveKind.TheVariants.{I64, U64, Octa, UOcta, I128, U128, F16, F32}
use Rattle.pdb_values.specs.declared.primitive.PrimitiveKind.TheVariants.{F32PP, F48, F64, F80, F128, Complex32}
use Rattle.pdb_values.specs.declared.primitive.PrimitiveKind.TheVariants.{Complex64, Complex80, Complex128, Bool8}
use Rattle.pdb_values.specs.declared.primitive.PrimitiveKind.TheVariants.{Bool16, Bool32, Bool64}
use Rattle.pdb_values.specs.declared.primitive.PrimitiveType.{PrimitiveType}

-- the size of a value of a primitive type; `void`, and a type that isn't stated, have no values
abbrev pub kind_size : PrimitiveKind → Option ℕ
kind_size NoType = None  -- T_NOTYPE
kind_size Void = None  -- T_VOID
kind_size HRESULT = Some 4  -- T_HRESULT
kind_size Char = Some 1  -- T_CHAR
kind_size UChar = Some 1  -- T_UCHAR
kind_size I8 = Some 1  -- T_INT1
kind_size U8 = Some 1  -- T_UINT1
kind_size RChar = Some 1  -- T_RCHAR
kind_size WChar = Some 2  -- T_WCHAR
kind_size RChar16 = Some 2  -- T_CHAR16
kind_size RChar32 = Some 4  -- T_CHAR32
kind_size Short = Some 2  -- T_SHORT
kind_size UShort = Some 2  -- T_USHORT
kind_size I16 = Some 2  -- T_INT2
kind_size U16 = Some 2  -- T_UINT2
kind_size Long = Some 4  -- T_LONG
kind_size ULong = Some 4  -- T_ULONG
kind_size I32 = Some 4  -- T_INT4
kind_size U32 = Some 4  -- T_UINT4
kind_size Quad = Some 8  -- T_QUAD
kind_size UQuad = Some 8  -- T_UQUAD
kind_size I64 = Some 8  -- T_INT8
kind_size U64 = Some 8  -- T_UINT8
kind_size Octa = Some 16  -- T_OCT
kind_size UOcta = Some 16  -- T_UOCT
kind_size I128 = Some 16  -- T_INT16
kind_size U128 = Some 16  -- T_UINT16
kind_size F16 = Some 2  -- T_REAL16
kind_size F32 = Some 4  -- T_REAL32
kind_size F32PP = Some 4  -- T_REAL32PP
kind_size F48 = Some 6  -- T_REAL48
kind_size F64 = Some 8  -- T_REAL64
kind_size F80 = Some 10  -- T_REAL80
kind_size F128 = Some 16  -- T_REAL128
kind_size Complex32 = Some 8  -- T_CPLX32: two numbers of 32 bits
kind_size Complex64 = Some 16  -- T_CPLX64
kind_size Complex80 = Some 20  -- T_CPLX80
kind_size Complex128 = Some 32  -- T_CPLX128
kind_size Bool8 = Some 1  -- T_BOOL08
kind_size Bool16 = Some 2  -- T_BOOL16
kind_size Bool32 = Some 4  -- T_BOOL32
kind_size Bool64 = Some 8  -- T_BOOL64

-- the size of a pointer to a primitive type; a far pointer of 32 bits has the 4 bytes that a pointer of its
-- kind has where its record states no size
abbrev pub primitive_pointer_size : Indirection → ℕ
primitive_pointer_size Near16 = 2  -- CV_TM_NPTR
primitive_pointer_size Far16 = 4  -- CV_TM_FPTR
primitive_pointer_size Huge16 = 4  -- CV_TM_HPTR
primitive_pointer_size Near32 = 4  -- CV_TM_NPTR32
primitive_pointer_size Far32 = 4  -- CV_TM_FPTR32
primitive_pointer_size Near64 = 8  -- CV_TM_NPTR64
primitive_pointer_size Near128 = 16  -- CV_TM_NPTR128

-- the size of a pointer if there is one, and else of a value
abbrev pub pointed_size : Option Indirection → PrimitiveKind → Option ℕ
pointed_size (Some indirection) kind = Some (primitive_pointer_size indirection)
pointed_size None kind = kind_size kind

-- the size of a primitive type: that of the pointer if it is one, and else that of a value
abbrev pub primitive_size : PrimitiveType → Option ℕ
primitive_size type = pointed_size type.indirection type.kind
