use Rattle.std.proofs.Common.{◌≡◌}
use Rattle.pdb_record_tests.proofs.tests.tables.show_each.Given as goal

abbrev pub invariant-loop-done : goal.invariant-loop-done
invariant-loop-done g l = l.finder.table ≡ l.table
