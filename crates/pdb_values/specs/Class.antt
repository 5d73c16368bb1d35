-- Classes, structures and interfaces as values, in which each name is the list of its bytes.
use Rattle.std.specs.Prelude.{ℕ, List, Option}
use Rattle.std.specs.Option.{option_map}
use Rattle.pdb_base.specs.declared.index.TypeIndex.{TypeIndex}
use Rattle.pdb_values.specs.declared.class.ClassKind.{ClassKind}
use Rattle.pdb_values.specs.declared.class.ClassType.{ClassType}
use Rattle.pdb_values.specs.Text.{text_bytes}

-- a class, a structure or an interface
pub record ClassValue : Type 0 where
  pub kind : ClassKind
  pub count : ℕ
  pub properties : ℕ
  pub fields : Option TypeIndex
  pub derived_from : Option TypeIndex
  pub vtable_shape : Option TypeIndex
  pub size : ℕ
  pub name : List ℕ
  pub unique_name : Option (List ℕ)

-- the value of a `ClassType`
abbrev pub class_value : ClassType → ClassValue
class_value type = record {
  kind = type.kind;
  count = type.count;
  properties = type.properties;
  fields = type.fields;
  derived_from = type.derived_from;
  vtable_shape = type.vtable_shape;
  size = type.size;
  name = text_bytes type.name;
  unique_name = option_map text_bytes type.unique_name;
}
