-- Unions as values, in which each name is the list of its bytes.
use Rattle.std.specs.Prelude.{ℕ, List, Option}
use Rattle.std.specs.Option.{option_map}
use Rattle.pdb_base.specs.declared.index.TypeIndex.{TypeIndex}
use Rattle.pdb_values.specs.declared.union_type.UnionType.{UnionType}
use Rattle.pdb_values.specs.Text.{text_bytes}

-- a union
pub record UnionValue : Type 0 where
  pub count : ℕ
  pub properties : ℕ
  pub fields : TypeIndex
  pub size : ℕ
  pub name : List ℕ
  pub unique_name : Option (List ℕ)

-- the value of a `UnionType`
abbrev pub union_value : UnionType → UnionValue
union_value type = record {
  count = type.count;
  properties = type.properties;
  fields = type.fields;
  size = type.size;
  name = text_bytes type.name;
  unique_name = option_map text_bytes type.unique_name;
}
