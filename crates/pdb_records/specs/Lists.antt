-- The records that are lists, or hold one.
use Rattle.std.specs.Prelude.{ℕ, Bool, List, Option}
use Rattle.pdb_base.specs.declared.index.TypeIndex.{TypeIndex}
use Rattle.pdb_records.specs.Shape.{Shape, Value, u16, u32, type_index, when, times}
use Rattle.pdb_records.specs.Row.{Row, gives}
use Rattle.pdb_records.specs.InOrder.{◌>>=◌}
use Rattle.pdb_records.specs.declared.parse.counted.CountWidth.{CountWidth}
use Rattle.pdb_records.specs.declared.parse.counted.CountWidth.TheVariants.{Bits16, Bits32}

-- a count, followed by that many values of a shape
unfoldable pub counted_row : CountWidth → (shape : Shape) → Row (List (Value shape))
counted_row Bits16 shape = do
  count ← u16
  items ← times count shape
  gives items
counted_row Bits32 shape = do
  count ← u32
  items ← times count shape
  gives items

-- lfArgList: the types of a function's arguments
abbrev pub arguments_row : Row (List TypeIndex)
arguments_row = counted_row Bits32 type_index

-- the fields of an array before its dimensions
pub record ArrayHead : Type 0 where
  pub element_type : TypeIndex
  pub indexing_type : TypeIndex
  pub stride : Option ℕ

-- lfArray, and lfStridedArray, which has a stride: the fields before the dimensions
unfoldable pub array_row : Bool → Row ArrayHead
array_row strided = do
  element_type ← type_index
  indexing_type ← type_index
  stride ← when strided u32
  gives (record { element_type = element_type; indexing_type = indexing_type; stride = stride })
