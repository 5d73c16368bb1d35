-- Lists are short compared with their records: each item takes at least two bytes. The descriptors of a
-- vtable shape don't count as a list: they are bytes that are borrowed from the record.
use Rattle.std.specs.Prelude.{ℕ, ◌*◌, ◌≤◌, List, length}
use Rattle.pdb_values.specs.TypeValue.{TypeValue, Fields, values_in}
use Rattle.pdb_values.specs.TypeValue as values

-- the list has at most half as many items as there are bytes
abbrev pub HalfAsMany : {A : Type 0} → List A → ℕ → Type 0
HalfAsMany list bytes = 2 * length list ≤ bytes

-- Every list in a value, also in the fields of a field list, has at most half as many items as there are
-- bytes.
abbrev mutual
  pub IsShort : ℕ → TypeValue → Type 0
  IsShort bytes (values.array array) = HalfAsMany array.dimensions bytes
  IsShort bytes (values.argument_list list) = HalfAsMany list bytes
  IsShort bytes (values.method_list list) = HalfAsMany list bytes
  IsShort bytes (values.field_list fields continuation) = HalfAsMany (values_in fields) bytes × AreShort bytes fields
  IsShort bytes (values.plain value) = Unit {0}

  -- the same for each field
  pub AreShort : ℕ → Fields → Type 0
  AreShort bytes values.no_field = Unit {0}
  AreShort bytes (values.first_field value fields) = IsShort bytes value × AreShort bytes fields
