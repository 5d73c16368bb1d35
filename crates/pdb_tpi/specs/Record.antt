-- The contents of the items of a table.
use Rattle.std.specs.Prelude.{ℕ, nat_lt, if◌then◌else◌, List}
use Rattle.pdb_base.specs.Endian.{little_number}
use Rattle.pdb_base.specs.Answer.{Answer}
use Rattle.pdb_values.specs.Primitive.{first_record}
use Rattle.pdb_values.specs.TypeValue.{TypeValue}
use Rattle.pdb_values.specs.TypeView.{primitive_of}
use Rattle.pdb_values.specs.IdValue.{IdValue}
use Rattle.pdb_records.specs.Fields.{type_record}
use Rattle.pdb_records.specs.Ids.{id_record}

-- the kind of an item: its first two bytes, the lowest first
abbrev pub kind_of : List ℕ → ℕ
kind_of item = little_number 2 item

-- the type of an item: an index below 0x1000 stands for a primitive type, and the item of any other index
-- is a type record
unfoldable pub type_of : ℕ → List ℕ → Answer TypeValue
type_of index item = if nat_lt index first_record then primitive_of index else type_record item

-- the id of an item, which is an id record whatever its index
unfoldable pub id_of : List ℕ → Answer IdValue
id_of item = id_record item
