-- There is a count for each kind.
use Rattle.std.proofs.Common.{◌≡◌, length}
use Rattle.pdb_tpi.specs.Steps.{items_left}
use Rattle.pdbdump_tables.proofs.kinds.count_records.Given as goal

abbrev pub invariant-loop-item : goal.invariant-loop-item
invariant-loop-item l = (length l.counts.items ≡ 0x10000) × (length l.sizes.items ≡ 0x10000)

abbrev pub decreases-loop-item : goal.decreases-loop-item
decreases-loop-item l = items_left l.items
