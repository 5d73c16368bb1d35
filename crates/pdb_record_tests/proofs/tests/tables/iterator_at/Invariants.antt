use Rattle.std.proofs.Common.{◌≡◌}
use Rattle.pdb_record_tests.proofs.tests.tables.iterator_at.Given as goal

abbrev pub invariant-loop : goal.invariant-loop
invariant-loop g l = l.walk.table ≡ l.table
