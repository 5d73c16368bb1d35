use Rattle.std.proofs.Common.{◌≡◌}
use Rattle.pdb_types.specs.Size.{size_of}
use Rattle.pdb_types.proofs.definitions.Definitions.size_of.Given as goal

abbrev pub invariant-loop-size : goal.invariant-loop-size
invariant-loop-size l = size_of l.self l.fn.index.0 ≡ size_of l.self l.index.0

abbrev pub decreases-loop-size : goal.decreases-loop-size
decreases-loop-size l = l.index.0
