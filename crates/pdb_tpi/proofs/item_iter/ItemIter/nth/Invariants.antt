use Rattle.std.proofs.Common.{◌≡◌, ◌+◌}
use Rattle.pdb_base.specs.Count.{calls_of, after_calls}
use Rattle.pdb_tpi.specs.Steps.{steps_taken}
use Rattle.pdb_tpi.proofs.item_iter.ItemIter.nth.Given as goal

abbrev pub invariant-loop : goal.invariant-loop
invariant-loop g l = record {
  table : l.self.table ≡ l.fn.self.table;
  index : l.self.index ≡ l.fn.self.index + l.counter;
  place : steps_taken l.self ≡ steps_taken l.fn.self + l.counter;
  counted : calls_of l.count ≡ after_calls l.counter (calls_of l.fn.count);
}
