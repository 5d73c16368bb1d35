use Rattle.pdb_tpi.specs.Steps.{items_left}
use Rattle.pdb_validation.proofs.RecordLemmas.{IsAdding}
use Rattle.pdb_validation.proofs.records.check_records.Given as goal

abbrev pub invariant-loop-item : goal.invariant-loop-item
invariant-loop-item g l =
    IsAdding l.extent g.I.CheckedIndex.STREAM (g.I.CheckedIndex.wrong l.types) l.table l.mismatches.items l.items

abbrev pub decreases-loop-item : goal.decreases-loop-item
decreases-loop-item g l = items_left l.items
