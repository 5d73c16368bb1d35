-- Lines were written so far, and the iterator stands in the table.
use Rattle.std.proofs.Common.{◌≡◌, Ok}
use Rattle.pdb_tpi.specs.Steps.{items_left}
use Rattle.pdbdump_rows.specs.Rows.{WritesLines}
use Rattle.pdbdump_tables.proofs.item_listing.list_selected.Given as goal

abbrev pub invariant-records : goal.invariant-records
invariant-records g l = WritesLines l.form l.initial.out l.out (Ok tt) × (l.items.table ≡ l.table)

abbrev pub decreases-records : goal.decreases-records
decreases-records g l = items_left l.items
