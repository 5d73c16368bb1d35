-- The shape of a table of virtual functions as a value, independent of where its bytes are stored.
use Rattle.std.specs.Prelude.{ℕ, List}
use Rattle.pdb_values.specs.declared.table_shape.VirtualTableShapeType.{VirtualTableShapeType}

-- the number of functions in the table, and the bytes with their descriptors, of which each takes half a
-- byte
pub record VirtualTableShapeValue : Type 0 where
  pub count : ℕ
  pub descriptors : List ℕ

-- the value of a `VirtualTableShapeType`
abbrev pub table_shape_value : VirtualTableShapeType → VirtualTableShapeValue
table_shape_value type = record { count = type.count; descriptors = type.descriptors.now }
