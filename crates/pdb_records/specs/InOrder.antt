-- Rows written as tables: one shape a line, in order.
use Rattle.pdb_records.specs.Shape.{Shape, Value}
use Rattle.pdb_records.specs.Row.{Row, field}

infixl 10 ◌>>=◌
-- a row that begins with a shape, and goes on with a row that may depend on the shape's value
abbrev pub ◌>>=◌ : {A : Type 0} → (shape : Shape) → (Value shape → Row A) → Row A
shape >>= next = field shape next
