-- The leaves of type records, as Microsoft's cvinfo.h numbers them, and the row of fields behind each.
use Rattle.std.specs.Prelude.{ℕ, true, false, ◌==◌, List, [], ◌∷◌, Option}
use Rattle.std.specs.Map.{lookup}
use Rattle.std.specs.Option.{option_map, option_or}
use Rattle.pdb_records.specs.Row.{Row}
use Rattle.pdb_values.specs.declared.class.ClassKind.TheVariants as kinds
use Rattle.pdb_records.specs.declared.leaf.Leaf.{Leaf}
use Rattle.pdb_records.specs.declared.leaf.Leaf.TheVariants.{Plain, ArgumentList, MethodList, Array}
use Rattle.pdb_records.specs.declared.parse.plain.PlainLeaf.{PlainLeaf}
use Rattle.pdb_records.specs.declared.parse.plain.PlainLeaf.TheVariants.{Class, WideStruct, Member, Nested}
use Rattle.pdb_records.specs.declared.parse.plain.PlainLeaf.TheVariants.{MemberFunction, OverloadedMethod, Method}
use Rattle.pdb_records.specs.declared.parse.plain.PlainLeaf.TheVariants.{BaseClass, TablePointer, StaticMember, Pointer}
use Rattle.pdb_records.specs.declared.parse.plain.PlainLeaf.TheVariants.{Procedure, Modifier, Enumeration, Enumerate}
use Rattle.pdb_records.specs.declared.parse.plain.PlainLeaf.TheVariants.{Union, Bitfield, VirtualBaseClass, TableShape}
use Rattle.pdb_values.specs.TypeValue.{PlainValue}
use Rattle.pdb_records.specs.Rows.{class_row, wide_class_row, member_row, nested_row, member_function_row}
use Rattle.pdb_records.specs.Rows.{overloaded_method_row, method_row, base_row, table_pointer_row, static_member_row}
use Rattle.pdb_records.specs.Rows.{pointer_row, procedure_row, modifier_row, enumeration_row, enumerate_row, union_row}
use Rattle.pdb_records.specs.Rows.{bitfield_row, virtual_base_row, table_shape_row}

-- the leaves of records without a list
abbrev pub plain_leaves : List (ℕ × PlainLeaf)
plain_leaves =
    (0x1504, Class kinds.Class)  -- LF_CLASS
    ∷ (0x1004, Class kinds.Class)  -- LF_CLASS_ST
    ∷ (0x1505, Class kinds.Struct)  -- LF_STRUCTURE
    ∷ (0x1005, Class kinds.Struct)  -- LF_STRUCTURE_ST
    ∷ (0x1519, Class kinds.Interface)  -- LF_INTERFACE
    ∷ (0x1609, WideStruct)  -- LF_STRUCTURE19
    ∷ (0x150d, Member)  -- LF_MEMBER
    ∷ (0x1405, Member)  -- LF_MEMBER_ST
    ∷ (0x1510, Nested false)  -- LF_NESTTYPE
    ∷ (0x1408, Nested false)  -- LF_NESTTYPE_ST
    ∷ (0x1512, Nested true)  -- LF_NESTTYPEEX
    ∷ (0x140d, Nested true)  -- LF_NESTTYPEEX_ST
    ∷ (0x1009, MemberFunction)  -- LF_MFUNCTION
    ∷ (0x150f, OverloadedMethod)  -- LF_METHOD
    ∷ (0x1407, OverloadedMethod)  -- LF_METHOD_ST
    ∷ (0x1511, Method)  -- LF_ONEMETHOD
    ∷ (0x140b, Method)  -- LF_ONEMETHOD_ST
    ∷ (0x1400, BaseClass kinds.Class)  -- LF_BCLASS
    ∷ (0x151a, BaseClass kinds.Interface)  -- LF_BINTERFACE
    ∷ (0x1409, TablePointer)  -- LF_VFUNCTAB
    ∷ (0x150e, StaticMember)  -- LF_STMEMBER
    ∷ (0x1406, StaticMember)  -- LF_STMEMBER_ST
    ∷ (0x1002, Pointer)  -- LF_POINTER
    ∷ (0x1008, Procedure)  -- LF_PROCEDURE
    ∷ (0x1001, Modifier)  -- LF_MODIFIER
    ∷ (0x1507, Enumeration)  -- LF_ENUM
    ∷ (0x1007, Enumeration)  -- LF_ENUM_ST
    ∷ (0x1502, Enumerate)  -- LF_ENUMERATE
    ∷ (0x0403, Enumerate)  -- LF_ENUMERATE_ST
    ∷ (0x1506, Union)  -- LF_UNION
    ∷ (0x1006, Union)  -- LF_UNION_ST
    ∷ (0x1205, Bitfield)  -- LF_BITFIELD
    ∷ (0x1401, VirtualBaseClass true)  -- LF_VBCLASS
    ∷ (0x1402, VirtualBaseClass false)  -- LF_IVBCLASS
    ∷ (0x000a, TableShape)  -- LF_VTSHAPE
    ∷ []

-- the kind of record without a list that has the leaf of this number, if there is one
abbrev pub plain_leaf : ℕ → Option PlainLeaf
plain_leaf number = lookup (λ leaf. leaf == number) plain_leaves

-- the leaves of records with a list, other than field lists
abbrev pub list_leaves : List (ℕ × Leaf)
list_leaves =
    (0x1201, ArgumentList)  -- LF_ARGLIST
    ∷ (0x1206, MethodList)  -- LF_METHODLIST
    ∷ (0x1503, Array false)  -- LF_ARRAY
    ∷ (0x1003, Array false)  -- LF_ARRAY_ST
    ∷ (0x1516, Array true)  -- LF_STRIDED_ARRAY
    ∷ []

-- the kind of record, other than a field list, that has the leaf of this number, if there is one
abbrev pub leaf_of : ℕ → Option Leaf
leaf_of number = option_or (lookup (λ leaf. leaf == number) list_leaves) (option_map Plain (plain_leaf number))

-- the row of a record without a list whose leaf has this number
abbrev pub row_of : ℕ → PlainLeaf → Row PlainValue
row_of number (Class kind) = class_row number kind
row_of number WideStruct = wide_class_row number kinds.Struct
row_of number Member = member_row number
row_of number (Nested has_attributes) = nested_row number has_attributes
row_of number MemberFunction = member_function_row
row_of number OverloadedMethod = overloaded_method_row number
row_of number Method = method_row number
row_of number (BaseClass kind) = base_row kind
row_of number TablePointer = table_pointer_row
row_of number StaticMember = static_member_row number
row_of number Pointer = pointer_row
row_of number Procedure = procedure_row
row_of number Modifier = modifier_row
row_of number Enumeration = enumeration_row number
row_of number Enumerate = enumerate_row number
row_of number Union = union_row number
row_of number Bitfield = bitfield_row
row_of number (VirtualBaseClass direct) = virtual_base_row direct
row_of number TableShape = table_shape_row
