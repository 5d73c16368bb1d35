use Rattle.std.proofs.Common.{◌≡◌}
use Rattle.pdb_hostile_tests.proofs.tests.refused.is_learned.Given as goal

abbrev pub invariant-loop : goal.invariant-loop
invariant-loop l = (l.finder.table ≡ l.table) × (l.walk.table ≡ l.table)
