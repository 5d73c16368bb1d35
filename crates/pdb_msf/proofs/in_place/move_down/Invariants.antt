use Rattle.std.proofs.Common.{◌-◌, ◌≤◌}
use Rattle.pdb_msf.specs.InPlace.{IsMoved}
use Rattle.pdb_msf.proofs.in_place.move_down.Given as goal

abbrev pub invariant-loop-moved : goal.invariant-loop-moved
invariant-loop-moved l = record {
  most : l.moved ≤ l.size;
  is : IsMoved l.from l.to l.moved l.fn.bytes l.bytes;
}

abbrev pub decreases-loop-moved : goal.decreases-loop-moved
decreases-loop-moved l = l.size - l.moved
