use Rattle.std.proofs.Common.{◌≡◌, ◌*◌, ◌≤◌}
use Rattle.pdb_validation.specs.Information.{ones_from}
use Rattle.pdb_validation.proofs.information.ones_from.Given as goal

abbrev pub invariant-loop-place : goal.invariant-loop-place
invariant-loop-place l = record {
  ones : l.ones ≡ ones_from l.stream l.byte l.place;
  few : l.ones ≤ 32 * l.place;
}
