use Rattle.pdb_tpi.specs.Steps.{items_left}
use Rattle.pdbdump_tables.proofs.used_types.push_declared.Given as goal

abbrev pub decreases-loop-item : goal.decreases-loop-item
decreases-loop-item l = items_left l.items
