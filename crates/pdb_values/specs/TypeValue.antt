-- The contents of a type record as a value, independent of where its bytes are stored: a name is the list
-- of its bytes, and a list is the list of its items. A type that has neither is the type that the code
-- declares.
use Rattle.std.specs.Prelude.{ℕ, List, [], ◌∷◌, Option, Some, None}
use Rattle.pdb_base.specs.declared.index.TypeIndex.{TypeIndex}
use Rattle.pdb_values.specs.declared.primitive.PrimitiveType.{PrimitiveType}
use Rattle.pdb_values.specs.declared.function.MemberFunctionType.{MemberFunctionType}
use Rattle.pdb_values.specs.declared.function.ProcedureType.{ProcedureType}
use Rattle.pdb_values.specs.declared.base_class.BaseClassType.{BaseClassType}
use Rattle.pdb_values.specs.declared.base_class.VirtualBaseClassType.{VirtualBaseClassType}
use Rattle.pdb_values.specs.declared.base_class.VirtualFunctionTablePointerType.{VirtualFunctionTablePointerType}
use Rattle.pdb_values.specs.declared.pointer.PointerType.{PointerType}
use Rattle.pdb_values.specs.declared.modifier.ModifierType.{ModifierType}
use Rattle.pdb_values.specs.declared.bitfield.BitfieldType.{BitfieldType}
use Rattle.pdb_values.specs.declared.method.MethodListEntry.{MethodListEntry}
use Rattle.pdb_values.specs.Class.{ClassValue}
use Rattle.pdb_values.specs.Member.{MemberValue, StaticMemberValue, NestedValue}
use Rattle.pdb_values.specs.Method.{OverloadedMethodValue, MethodValue}
use Rattle.pdb_values.specs.Enumeration.{EnumerationValue, EnumerateValue}
use Rattle.pdb_values.specs.Array.{ArrayValue}
use Rattle.pdb_values.specs.Union.{UnionValue}
use Rattle.pdb_values.specs.TableShape.{VirtualTableShapeValue}

-- the contents of a record without a list, or a primitive type
pub data PlainValue : Type 0 where
  primitive : PrimitiveType → PlainValue
  class : ClassValue → PlainValue
  member : MemberValue → PlainValue
  member_function : MemberFunctionType → PlainValue
  overloaded_method : OverloadedMethodValue → PlainValue
  method : MethodValue → PlainValue
  static_member : StaticMemberValue → PlainValue
  nested : NestedValue → PlainValue
  base_class : BaseClassType → PlainValue
  virtual_base_class : VirtualBaseClassType → PlainValue
  virtual_function_table_pointer : VirtualFunctionTablePointerType → PlainValue
  procedure : ProcedureType → PlainValue
  pointer : PointerType → PlainValue
  modifier : ModifierType → PlainValue
  enumeration : EnumerationValue → PlainValue
  enumerate : EnumerateValue → PlainValue
  union : UnionValue → PlainValue
  bitfield : BitfieldType → PlainValue
  virtual_table_shape : VirtualTableShapeValue → PlainValue

mutual
  -- the value of a type: of one without a list, or of one that is or holds a list
  pub data TypeValue : Type 0 where
    plain : PlainValue → TypeValue
    array : ArrayValue → TypeValue
    field_list : Fields → Option TypeIndex → TypeValue
    argument_list : List TypeIndex → TypeValue
    method_list : List MethodListEntry → TypeValue

  -- the values of the fields of a field list, in order
  pub data Fields : Type 0 where
    no_field : Fields
    first_field : TypeValue → Fields → Fields

-- a list of values as the fields of a field list
abbrev pub as_fields : List TypeValue → Fields
as_fields [] = no_field
as_fields (value ∷ values) = first_field value (as_fields values)

-- the fields of a field list as a list of values
abbrev pub values_in : Fields → List TypeValue
values_in no_field = []
values_in (first_field value fields) = value ∷ values_in fields

-- the name of a type or of a member. A `method` has a name in its record, but none is returned for it.
abbrev pub plain_name : PlainValue → Option (List ℕ)
plain_name (class value) = Some value.name
plain_name (member value) = Some value.name
plain_name (overloaded_method value) = Some value.name
plain_name (static_member value) = Some value.name
plain_name (nested value) = Some value.name
plain_name (enumeration value) = Some value.name
plain_name (enumerate value) = Some value.name
plain_name (union value) = Some value.name
plain_name value = None

-- the name of any type or member; a list has none
abbrev pub name_of_type : TypeValue → Option (List ℕ)
name_of_type (plain value) = plain_name value
name_of_type value = None
