use Rattle.std.proofs.Common.{◌≡◌}
use Rattle.pdb_record_tests.proofs.tests.tables.finder_tells.Given as goal

abbrev pub invariant-loop-ask : goal.invariant-loop-ask
invariant-loop-ask g l = l.finder.table ≡ l.table
