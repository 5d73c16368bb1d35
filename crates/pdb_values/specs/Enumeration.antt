-- Enumerations and their values, in which each name is the list of its bytes.
use Rattle.std.specs.Prelude.{ℕ, List, Option}
use Rattle.std.specs.Option.{option_map}
use Rattle.pdb_base.specs.declared.index.TypeIndex.{TypeIndex}
use Rattle.pdb_base.specs.declared.variant.Variant.{Variant}
use Rattle.pdb_values.specs.declared.enumeration.EnumerationType.{EnumerationType}
use Rattle.pdb_values.specs.declared.enumeration.EnumerateType.{EnumerateType}
use Rattle.pdb_values.specs.Text.{text_bytes}

-- an enumeration
pub record EnumerationValue : Type 0 where
  pub count : ℕ
  pub properties : ℕ
  pub underlying_type : TypeIndex
  pub fields : TypeIndex
  pub name : List ℕ
  pub unique_name : Option (List ℕ)

-- a value of an enumeration
pub record EnumerateValue : Type 0 where
  pub attributes : ℕ
  pub value : Variant
  pub name : List ℕ

-- the value of an `EnumerationType`
abbrev pub enumeration_value : EnumerationType → EnumerationValue
enumeration_value type = record {
  count = type.count;
  properties = type.properties;
  underlying_type = type.underlying_type;
  fields = type.fields;
  name = text_bytes type.name;
  unique_name = option_map text_bytes type.unique_name;
}

-- the value of an `EnumerateType`
abbrev pub enumerate_value : EnumerateType → EnumerateValue
enumerate_value type = record { attributes = type.attributes; value = type.value; name = text_bytes type.name }
