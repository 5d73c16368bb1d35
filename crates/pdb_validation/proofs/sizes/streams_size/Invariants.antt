use Rattle.std.proofs.Common.{◌≡◌, ◌*◌, ◌≤◌}
use Rattle.pdb_validation.specs.Sizes.{layout_sizes}
use Rattle.pdb_validation.proofs.sizes.streams_size.Given as goal

abbrev pub invariant-loop-number : goal.invariant-loop-number
invariant-loop-number l = record {
  total : l.total ≡ layout_sizes l.layout l.number;
  small : l.total ≤ l.number * 0xffffffff;
}
