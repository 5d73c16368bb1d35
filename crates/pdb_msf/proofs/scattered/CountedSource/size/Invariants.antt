-- The size is from `least` to `most`.
use Rattle.std.proofs.Common.{◌≤◌, ◌-◌, length}
use Rattle.pdb_msf.specs.Source.{IsFixed, IsKept}
use Rattle.pdb_msf.proofs.scattered.CountedSource.size.Given as goal

abbrev pub invariant-loop-least : goal.invariant-loop-least
invariant-loop-least g l = record {
  above : IsFixed (g.S.Source.state l.fn.self.source) → l.least ≤ length (g.S.Source.state l.fn.self.source).bytes;
  below : IsFixed (g.S.Source.state l.fn.self.source) → length (g.S.Source.state l.fn.self.source).bytes ≤ l.most;
  ordered : l.least ≤ l.most;
  kept : IsKept (g.S.Source.state l.fn.self.source) (g.S.Source.state l.self.source);
}

abbrev pub decreases-loop-least : goal.decreases-loop-least
decreases-loop-least g l = l.most - l.least
