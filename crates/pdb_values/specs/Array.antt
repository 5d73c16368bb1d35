-- Array types as values, with their dimensions as a list.
use Rattle.std.specs.Prelude.{ℕ, List, Option}
use Rattle.pdb_base.specs.declared.index.TypeIndex.{TypeIndex}
use Rattle.pdb_values.specs.declared.array.ArrayType.{ArrayType}

-- an array type
pub record ArrayValue : Type 0 where
  pub element_type : TypeIndex
  pub indexing_type : TypeIndex
  pub stride : Option ℕ
  pub dimensions : List ℕ

-- the value of an `ArrayType`
abbrev pub array_value : ArrayType → ArrayValue
array_value type = record {
  element_type = type.element_type;
  indexing_type = type.indexing_type;
  stride = type.stride;
  dimensions = type.dimensions.items;
}
