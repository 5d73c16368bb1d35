-- So far the records before the iterator's are told.
use Rattle.std.proofs.Common.{map}
use Rattle.pdb_tpi.specs.Steps.{items_left}
use Rattle.pdb_validation.specs.Finding.{finding_view}
use Rattle.pdb_validation.specs.Tables.{item_fault}
use Rattle.pdb_validation.proofs.WalkLemmas.{IsChecking}
use Rattle.pdb_validation.proofs.tables.add_records.Given as goal

abbrev pub invariant-loop-item : goal.invariant-loop-item
invariant-loop-item g l =
    IsChecking (item_fault g.I.CheckedIndex.PART g.I.CheckedIndex.STREAM l.pages l.table.table)
    (g.I.CheckedIndex.checked l.table.table) l.table.table l.items l.extent
    (map finding_view l.initial.findings.items) (map finding_view l.findings.items)

abbrev pub decreases-loop-item : goal.decreases-loop-item
decreases-loop-item g l = items_left l.items
