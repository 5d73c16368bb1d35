-- The type of an index in a table of types.
use Rattle.std.specs.Prelude.{ℕ}
use Rattle.pdb_base.specs.Answer.{Answer, ◌>>=◌}
use Rattle.pdb_values.specs.TypeValue.{TypeValue}
use Rattle.pdb_tpi.specs.Finder.{item_of}
use Rattle.pdb_tpi.specs.Record.{type_of}
use Rattle.pdb_tpi.specs.Table.{Table}

-- the type of an index, or the first fault: that of the look-up, or that of the record
unfoldable pub type_at : Table → ℕ → Answer TypeValue
type_at table index = item_of table index >>= type_of index
