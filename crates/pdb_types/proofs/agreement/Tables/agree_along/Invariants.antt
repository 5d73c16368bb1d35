use Rattle.std.proofs.Common.{◌≡◌, ◌-◌, ◌≤◌, drop, length}
use Rattle.pdb_types.specs.Agreement.{agree_along}
use Rattle.pdb_types.proofs.agreement.Tables.agree_along.Given as goal

abbrev pub invariant-loop-place : goal.invariant-loop-place
invariant-loop-place l = record {
  same : agree_along l.most l.self.first.now l.self.second.now l.fn.pairs.items
      ≡ agree_along (l.most - l.place) l.self.first.now l.self.second.now (drop l.place l.pairs.items);
  within : l.place ≤ length l.pairs.items;
}
