use Rattle.std.proofs.Common.{◌≡◌}
use Rattle.pdb_space.proofs.OrderLemmas.{rises}
use Rattle.pdb_space.proofs.omap_table.OMAPTable.is_sorted.Given as goal

abbrev pub invariant-loop-record : goal.invariant-loop-record
invariant-loop-record l = rises l.highest l.record-iterator ≡ rises 0 l.self
