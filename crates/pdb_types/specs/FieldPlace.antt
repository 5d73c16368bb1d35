-- Where a record says that a field of a class begins.
use Rattle.std.specs.Prelude.{ℕ, Bool, true, false, List, Option, Some, None}
use Rattle.pdb_base.specs.declared.index.TypeIndex.{TypeIndex}
use Rattle.pdb_values.specs.Text.{text_bytes}
use Rattle.pdb_values.specs.TypeValue as types
use Rattle.pdb_values.specs.TypeValue.{TypeValue, PlainValue, plain, base_class, virtual_base_class}
use Rattle.pdb_values.specs.TypeValue.{virtual_function_table_pointer}
use Rattle.pdb_types.specs.declared.field_place.FieldKind.{FieldKind}
use Rattle.pdb_types.specs.declared.field_place.FieldKind.TheVariants as kinds
use Rattle.pdb_types.specs.declared.field_place.FieldPlace.{FieldPlace}
use Rattle.pdb_types.specs.declared.field_place.VirtualBase.{VirtualBase}

-- what a field of a class is: a base class, a pointer to the table of virtual bases of which a virtual base class
-- speaks, a pointer to a table of virtual functions, or a data member with a name
pub data FieldRole : Type 0 where
  base virtual_function_pointer : FieldRole
  virtual_base_pointer : VirtualBase → FieldRole
  member : List ℕ → FieldRole

-- what a field of a class is, its type, and where it begins, in bytes from the start of the class
pub record PlaceValue : Type 0 where
  pub role : FieldRole
  pub field_type : TypeIndex
  pub offset : ℕ

-- the value of the code's `FieldKind`
abbrev pub field_role : FieldKind → FieldRole
field_role kinds.Base = base
field_role (kinds.VirtualBasePointer class) = virtual_base_pointer class
field_role kinds.VirtualFunctionPointer = virtual_function_pointer
field_role (kinds.Member name) = member (text_bytes name)

-- the value of the code's `FieldPlace`
abbrev pub place_value : FieldPlace → PlaceValue
place_value place = record { role = field_role place.kind; field_type = place.field_type; offset = place.offset }

-- What a record without a list says of a field. A base class and a data member state their offsets; a virtual base
-- class states that of the pointer to its table; and the pointer to a table of virtual functions is at the start of
-- the class. A static data member, a method and a nested type take no place.
abbrev pub plain_place : PlainValue → Option PlaceValue
plain_place (base_class class) = Some (record { role = base; field_type = class.base_class; offset = class.offset })
plain_place (virtual_base_class class) =
    let base : VirtualBase = record {
      base_class = class.base_class;
      direct = class.direct;
      position =
          class.virtual_base_offset;
    } in
    Some (record {
      role = virtual_base_pointer base;
      field_type = class.base_pointer;
      offset =
          class.base_pointer_offset;
    })
plain_place (virtual_function_table_pointer pointer) =
    Some (record { role = virtual_function_pointer; field_type = pointer.table; offset = 0 })
plain_place (types.member value) = Some (record
    { role = member value.name; field_type = value.field_type; offset = value.offset })
plain_place value = None

-- what a record in a list of fields says of a field
abbrev pub place_of_field : TypeValue → Option PlaceValue
place_of_field (plain value) = plain_place value
place_of_field value = None

-- whether a field is a pointer to a table of virtual bases
abbrev pub is_virtual_role : FieldRole → Bool
is_virtual_role (virtual_base_pointer class) = true
is_virtual_role role = false
