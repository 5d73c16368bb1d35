-- Data members and nested types of a class as values, in which each name is the list of its bytes.
use Rattle.std.specs.Prelude.{ℕ, List}
use Rattle.pdb_base.specs.declared.index.TypeIndex.{TypeIndex}
use Rattle.pdb_values.specs.declared.member.MemberType.{MemberType}
use Rattle.pdb_values.specs.declared.member.StaticMemberType.{StaticMemberType}
use Rattle.pdb_values.specs.declared.member.NestedType.{NestedType}
use Rattle.pdb_values.specs.Text.{text_bytes}

-- a data member that each object of the class has
pub record MemberValue : Type 0 where
  pub attributes : ℕ
  pub field_type : TypeIndex
  pub offset : ℕ
  pub name : List ℕ

-- a static data member, which the class has only once
pub record StaticMemberValue : Type 0 where
  pub attributes : ℕ
  pub field_type : TypeIndex
  pub name : List ℕ

-- a type that is declared in a class
pub record NestedValue : Type 0 where
  pub attributes : ℕ
  pub nested_type : TypeIndex
  pub name : List ℕ

-- the value of a `MemberType`
abbrev pub member_value : MemberType → MemberValue
member_value type = record {
  attributes = type.attributes;
  field_type = type.field_type;
  offset = type.offset;
  name = text_bytes type.name;
}

-- the value of a `StaticMemberType`
abbrev pub static_member_value : StaticMemberType → StaticMemberValue
static_member_value type = record {
  attributes = type.attributes;
  field_type = type.field_type;
  name =
      text_bytes type.name;
}

-- the value of a `NestedType`
abbrev pub nested_value : NestedType → NestedValue
nested_value type = record { attributes = type.attributes; nested_type = type.nested_type; name = text_bytes type.name }
