-- The numbers of `LEAF_ENUM_e` in Microsoft's cvinfo.h, in which the leaves count up by one from a few
-- first numbers on.
use Rattle.std.specs.Prelude.{◌≡◌, ℕ, zero, suc, ◌+◌, List, [], ◌∷◌, length}
use Rattle.pdb_base.specs.declared.numeric_leaf.TheConstants.{LF_CHAR, LF_COMPLEX128, LF_COMPLEX32, LF_COMPLEX64}
use Rattle.pdb_base.specs.declared.numeric_leaf.TheConstants.{LF_COMPLEX80, LF_DATE, LF_DECIMAL, LF_LONG, LF_OCTWORD}
use Rattle.pdb_base.specs.declared.numeric_leaf.TheConstants.{LF_QUADWORD, LF_REAL128, LF_REAL16, LF_REAL32, LF_REAL48}
use Rattle.pdb_base.specs.declared.numeric_leaf.TheConstants.{LF_REAL64, LF_REAL80, LF_SHORT, LF_ULONG, LF_UOCTWORD}
use Rattle.pdb_base.specs.declared.numeric_leaf.TheConstants.{LF_UQUADWORD, LF_USHORT, LF_UTF8STRING, LF_VARSTRING}
use Rattle.pdb_values.specs.declared.constants.TheConstants.{LF_ALIAS, LF_ALIAS_ST, LF_ARGLIST, LF_ARGLIST_16t}
use Rattle.pdb_values.specs.declared.constants.TheConstants.{LF_ARRAY, LF_ARRAY_16t, LF_ARRAY_ST, LF_BARRAY}
use Rattle.pdb_values.specs.declared.constants.TheConstants.{LF_BARRAY_16t, LF_BCLASS, LF_BCLASS_16t, LF_BINTERFACE}
use Rattle.pdb_values.specs.declared.constants.TheConstants.{LF_BITFIELD, LF_BITFIELD_16t, LF_BUILDINFO, LF_CLASS}
use Rattle.pdb_values.specs.declared.constants.TheConstants.{LF_CLASS_16t, LF_CLASS_ST, LF_COBOL0, LF_COBOL0_16t}
use Rattle.pdb_values.specs.declared.constants.TheConstants.{LF_COBOL1, LF_DEFARG, LF_DEFARG_16t, LF_DEFARG_ST}
use Rattle.pdb_values.specs.declared.constants.TheConstants.{LF_DERIVED, LF_DERIVED_16t, LF_DIMARRAY, LF_DIMARRAY_16t}
use Rattle.pdb_values.specs.declared.constants.TheConstants.{LF_DIMARRAY_ST, LF_DIMCONLU, LF_DIMCONLU_16t, LF_DIMCONU}
use Rattle.pdb_values.specs.declared.constants.TheConstants.{LF_DIMCONU_16t, LF_DIMVARLU, LF_DIMVARLU_16t, LF_DIMVARU}
use Rattle.pdb_values.specs.declared.constants.TheConstants.{LF_DIMVARU_16t, LF_ENDPRECOMP, LF_ENUM, LF_ENUMERATE}
use Rattle.pdb_values.specs.declared.constants.TheConstants.{LF_ENUMERATE_ST, LF_ENUM_16t, LF_ENUM_ST, LF_FIELDLIST}
use Rattle.pdb_values.specs.declared.constants.TheConstants.{LF_FIELDLIST_16t, LF_FRIENDCLS, LF_FRIENDCLS_16t}
use Rattle.pdb_values.specs.declared.constants.TheConstants.{LF_FRIENDFCN, LF_FRIENDFCN_16t, LF_FRIENDFCN_ST}
use Rattle.pdb_values.specs.declared.constants.TheConstants.{LF_FUNC_ID, LF_HLSL, LF_ID_LAST, LF_ID_MAX, LF_INDEX}
use Rattle.pdb_values.specs.declared.constants.TheConstants.{LF_INDEX_16t, LF_INTERFACE, LF_IVBCLASS, LF_IVBCLASS_16t}
use Rattle.pdb_values.specs.declared.constants.TheConstants.{LF_LABEL, LF_LIST, LF_MANAGED, LF_MANAGED_ST, LF_MATRIX}
use Rattle.pdb_values.specs.declared.constants.TheConstants.{LF_MEMBER, LF_MEMBERMODIFY, LF_MEMBERMODIFY_ST}
use Rattle.pdb_values.specs.declared.constants.TheConstants.{LF_MEMBER_16t, LF_MEMBER_ST, LF_METHOD, LF_METHODLIST}
use Rattle.pdb_values.specs.declared.constants.TheConstants.{LF_METHODLIST_16t, LF_METHOD_16t, LF_METHOD_ST}
use Rattle.pdb_values.specs.declared.constants.TheConstants.{LF_MFUNCTION, LF_MFUNCTION_16t, LF_MFUNC_ID, LF_MODIFIER}
use Rattle.pdb_values.specs.declared.constants.TheConstants.{LF_MODIFIER_16t, LF_MODIFIER_EX, LF_NESTTYPE}
use Rattle.pdb_values.specs.declared.constants.TheConstants.{LF_NESTTYPEEX, LF_NESTTYPEEX_ST, LF_NESTTYPE_16t}
use Rattle.pdb_values.specs.declared.constants.TheConstants.{LF_NESTTYPE_ST, LF_NOTTRAN, LF_NULL, LF_OEM, LF_OEM2}
use Rattle.pdb_values.specs.declared.constants.TheConstants.{LF_OEM_16t, LF_ONEMETHOD, LF_ONEMETHOD_16t}
use Rattle.pdb_values.specs.declared.constants.TheConstants.{LF_ONEMETHOD_ST, LF_PAD0, LF_PAD1, LF_PAD10, LF_PAD11}
use Rattle.pdb_values.specs.declared.constants.TheConstants.{LF_PAD12, LF_PAD13, LF_PAD14, LF_PAD15, LF_PAD2, LF_PAD3}
use Rattle.pdb_values.specs.declared.constants.TheConstants.{LF_PAD4, LF_PAD5, LF_PAD6, LF_PAD7, LF_PAD8, LF_PAD9}
use Rattle.pdb_values.specs.declared.constants.TheConstants.{LF_POINTER, LF_POINTER_16t, LF_PRECOMP, LF_PRECOMP_16t}
use Rattle.pdb_values.specs.declared.constants.TheConstants.{LF_PRECOMP_ST, LF_PROCEDURE, LF_PROCEDURE_16t, LF_REFSYM}
use Rattle.pdb_values.specs.declared.constants.TheConstants.{LF_SKIP, LF_SKIP_16t, LF_STMEMBER, LF_STMEMBER_16t}
use Rattle.pdb_values.specs.declared.constants.TheConstants.{LF_STMEMBER_ST, LF_STRIDED_ARRAY, LF_STRING_ID}
use Rattle.pdb_values.specs.declared.constants.TheConstants.{LF_STRUCTURE, LF_STRUCTURE19, LF_STRUCTURE_16t}
use Rattle.pdb_values.specs.declared.constants.TheConstants.{LF_STRUCTURE_ST, LF_ST_MAX, LF_SUBSTR_LIST, LF_TI16_MAX}
use Rattle.pdb_values.specs.declared.constants.TheConstants.{LF_TYPESERVER, LF_TYPESERVER2, LF_TYPESERVER_ST}
use Rattle.pdb_values.specs.declared.constants.TheConstants.{LF_TYPE_LAST, LF_TYPE_MAX, LF_UDT_MOD_SRC_LINE}
use Rattle.pdb_values.specs.declared.constants.TheConstants.{LF_UDT_SRC_LINE, LF_UNION, LF_UNION_16t, LF_UNION_ST}
use Rattle.pdb_values.specs.declared.constants.TheConstants.{LF_VBCLASS, LF_VBCLASS_16t, LF_VECTOR, LF_VFTABLE}
use Rattle.pdb_values.specs.declared.constants.TheConstants.{LF_VFTPATH, LF_VFTPATH_16t, LF_VFUNCOFF, LF_VFUNCOFF_16t}
use Rattle.pdb_values.specs.declared.constants.TheConstants.{LF_VFUNCTAB, LF_VFUNCTAB_16t, LF_VTSHAPE}

-- as many consecutive numbers as the second argument says, from `first` on
abbrev pub counting_up : ℕ → ℕ → List ℕ
counting_up first zero = []
counting_up first (suc more) = first ∷ counting_up (first + 1) more

-- the numbers are consecutive, from `first` on
abbrev pub CountUpFrom : ℕ → List ℕ → Type 0
CountUpFrom first numbers = numbers ≡ counting_up first (length numbers)

-- the original leaves of the types that symbols refer to
abbrev pub old_type_leaves : List ℕ
old_type_leaves =
    LF_MODIFIER_16t ∷ LF_POINTER_16t ∷ LF_ARRAY_16t ∷ LF_CLASS_16t ∷ LF_STRUCTURE_16t ∷ LF_UNION_16t ∷
    LF_ENUM_16t ∷ LF_PROCEDURE_16t ∷ LF_MFUNCTION_16t ∷ LF_VTSHAPE ∷ LF_COBOL0_16t ∷ LF_COBOL1 ∷
    LF_BARRAY_16t ∷ LF_LABEL ∷ LF_NULL ∷ LF_NOTTRAN ∷ LF_DIMARRAY_16t ∷ LF_VFTPATH_16t ∷ LF_PRECOMP_16t
    ∷ LF_ENDPRECOMP ∷ LF_OEM_16t ∷ LF_TYPESERVER_ST ∷ []

-- the original leaves of the types that only other types refer to
abbrev pub old_inner_leaves : List ℕ
old_inner_leaves =
    LF_SKIP_16t ∷ LF_ARGLIST_16t ∷ LF_DEFARG_16t ∷ LF_LIST ∷ LF_FIELDLIST_16t ∷ LF_DERIVED_16t ∷
    LF_BITFIELD_16t ∷ LF_METHODLIST_16t ∷ LF_DIMCONU_16t ∷ LF_DIMCONLU_16t ∷ LF_DIMVARU_16t ∷
    LF_DIMVARLU_16t ∷ LF_REFSYM ∷ []

-- the original leaves of the entries of a field list
abbrev pub old_entry_leaves : List ℕ
old_entry_leaves =
    LF_BCLASS_16t ∷ LF_VBCLASS_16t ∷ LF_IVBCLASS_16t ∷ LF_ENUMERATE_ST ∷ LF_FRIENDFCN_16t ∷ LF_INDEX_16t
    ∷ LF_MEMBER_16t ∷ LF_STMEMBER_16t ∷ LF_METHOD_16t ∷ LF_NESTTYPE_16t ∷ LF_VFUNCTAB_16t ∷
    LF_FRIENDCLS_16t ∷ LF_ONEMETHOD_16t ∷ LF_VFUNCOFF_16t ∷ []

-- leaves of the types that symbols refer to, with indexes of 32 bits
abbrev pub type_leaves : List ℕ
type_leaves =
    LF_TI16_MAX ∷ LF_MODIFIER ∷ LF_POINTER ∷ LF_ARRAY_ST ∷ LF_CLASS_ST ∷ LF_STRUCTURE_ST ∷ LF_UNION_ST ∷
    LF_ENUM_ST ∷ LF_PROCEDURE ∷ LF_MFUNCTION ∷ LF_COBOL0 ∷ LF_BARRAY ∷ LF_DIMARRAY_ST ∷ LF_VFTPATH ∷
    LF_PRECOMP_ST ∷ LF_OEM ∷ LF_ALIAS_ST ∷ LF_OEM2 ∷ []

-- leaves of the types that only other types refer to, with indexes of 32 bits
abbrev pub inner_leaves : List ℕ
inner_leaves =
    LF_SKIP ∷ LF_ARGLIST ∷ LF_DEFARG_ST ∷ LF_FIELDLIST ∷ LF_DERIVED ∷ LF_BITFIELD ∷ LF_METHODLIST ∷
    LF_DIMCONU ∷ LF_DIMCONLU ∷ LF_DIMVARU ∷ LF_DIMVARLU ∷ []

-- leaves of the entries of a field list, with indexes of 32 bits
abbrev pub entry_leaves : List ℕ
entry_leaves =
    LF_BCLASS ∷ LF_VBCLASS ∷ LF_IVBCLASS ∷ LF_FRIENDFCN_ST ∷ LF_INDEX ∷ LF_MEMBER_ST ∷ LF_STMEMBER_ST ∷
    LF_METHOD_ST ∷ LF_NESTTYPE_ST ∷ LF_VFUNCTAB ∷ LF_FRIENDCLS ∷ LF_ONEMETHOD_ST ∷ LF_VFUNCOFF ∷
    LF_NESTTYPEEX_ST ∷ LF_MEMBERMODIFY_ST ∷ LF_MANAGED_ST ∷ []

-- leaves of types and of entries whose names end with a NUL
abbrev pub named_leaves : List ℕ
named_leaves =
    LF_ST_MAX ∷ LF_TYPESERVER ∷ LF_ENUMERATE ∷ LF_ARRAY ∷ LF_CLASS ∷ LF_STRUCTURE ∷ LF_UNION ∷ LF_ENUM ∷
    LF_DIMARRAY ∷ LF_PRECOMP ∷ LF_ALIAS ∷ LF_DEFARG ∷ LF_FRIENDFCN ∷ LF_MEMBER ∷ LF_STMEMBER ∷ LF_METHOD
    ∷ LF_NESTTYPE ∷ LF_ONEMETHOD ∷ LF_NESTTYPEEX ∷ LF_MEMBERMODIFY ∷ LF_MANAGED ∷ LF_TYPESERVER2 ∷
    LF_STRIDED_ARRAY ∷ LF_HLSL ∷ LF_MODIFIER_EX ∷ LF_INTERFACE ∷ LF_BINTERFACE ∷ LF_VECTOR ∷ LF_MATRIX ∷
    LF_VFTABLE ∷ []

-- the last leaf of a type, and the number behind it
abbrev pub last_leaves : List ℕ
last_leaves =
    LF_TYPE_MAX ∷ LF_TYPE_LAST ∷ []

-- leaves of ids
abbrev pub id_leaves : List ℕ
id_leaves =
    LF_FUNC_ID ∷ LF_MFUNC_ID ∷ LF_BUILDINFO ∷ LF_SUBSTR_LIST ∷ LF_STRING_ID ∷ LF_UDT_SRC_LINE ∷
    LF_UDT_MOD_SRC_LINE ∷ []

-- the last leaf of an id, the number behind it, and a later leaf of a type
abbrev pub last_id_leaves : List ℕ
last_id_leaves =
    LF_ID_MAX ∷ LF_ID_LAST ∷ LF_STRUCTURE19 ∷ []

-- prefixes of numbers
abbrev pub prefixes : List ℕ
prefixes =
    LF_CHAR ∷ LF_SHORT ∷ LF_USHORT ∷ LF_LONG ∷ LF_ULONG ∷ LF_REAL32 ∷ LF_REAL64 ∷ LF_REAL80 ∷ LF_REAL128
    ∷ LF_QUADWORD ∷ LF_UQUADWORD ∷ LF_REAL48 ∷ LF_COMPLEX32 ∷ LF_COMPLEX64 ∷ LF_COMPLEX80 ∷
    LF_COMPLEX128 ∷ LF_VARSTRING ∷ []

-- prefixes of numbers that were added later
abbrev pub later_prefixes : List ℕ
later_prefixes =
    LF_OCTWORD ∷ LF_UOCTWORD ∷ LF_DECIMAL ∷ LF_DATE ∷ LF_UTF8STRING ∷ LF_REAL16 ∷ []

-- padding
abbrev pub pads : List ℕ
pads =
    LF_PAD0 ∷ LF_PAD1 ∷ LF_PAD2 ∷ LF_PAD3 ∷ LF_PAD4 ∷ LF_PAD5 ∷ LF_PAD6 ∷ LF_PAD7 ∷ LF_PAD8 ∷ LF_PAD9 ∷
    LF_PAD10 ∷ LF_PAD11 ∷ LF_PAD12 ∷ LF_PAD13 ∷ LF_PAD14 ∷ LF_PAD15 ∷ []
