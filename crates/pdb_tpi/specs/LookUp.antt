-- The tables in which types are looked up, what a look-up there answers, and what it reads.
use Rattle.std.specs.Prelude.{ℕ}
use Rattle.pdb_tpi.specs.declared.fields.Types.{Types}
use Rattle.pdb_tpi.specs.declared.fields.Types.TheVariants as places
use Rattle.pdb_tpi.specs.Chain.{LookUp}
use Rattle.pdb_tpi.specs.Finder.{find_of, item_of, reads_of, reads_from}

abbrev pub answers : Types → LookUp
answers (places.Known finder) = find_of finder.now.table finder.now.known
answers (places.All table) = item_of table.now.table

-- how many length words the look-up of an index reads
abbrev pub reads_in : Types → ℕ → ℕ
reads_in (places.Known finder) = reads_of finder.now.table finder.now.known
reads_in (places.All table) = reads_from table.now.table table.now.known
