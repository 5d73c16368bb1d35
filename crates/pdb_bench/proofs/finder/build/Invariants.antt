use Rattle.std.proofs.Common.{◌≡◌}
use Rattle.pdb_bench.proofs.finder.build.Given as goal

abbrev pub invariant-loop : goal.invariant-loop
invariant-loop l = record {
  walks : l.items.table ≡ l.table;
  finds : l.finder.table ≡ l.table;
}
