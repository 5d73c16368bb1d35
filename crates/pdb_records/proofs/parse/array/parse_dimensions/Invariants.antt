-- The dimensions so far, and those that are read behind them, are all; nothing was read yet, or the first
-- dimension is there.
use Rattle.std.proofs.Common.{◌≡◌, ◌⊎◌, length}
use Rattle.pdb_base.specs.Place.{left}
use Rattle.pdb_records.specs.Dimensions.{dimensions_at}
use Rattle.pdb_records.proofs.StepLemmas.{behind}
use Rattle.pdb_records.specs.Memory.{HoldsDimension}
use Rattle.pdb_records.proofs.parse.array.parse_dimensions.Given as goal

abbrev pub invariant-all : goal.invariant-all
invariant-all l = record {
  all : dimensions_at (left l.fn.buffer) ≡ behind l.dimensions.items (dimensions_at (left l.buffer));
  begun : (left l.buffer ≡ left l.fn.buffer) ⊎ HoldsDimension (left l.fn.buffer);
}

abbrev pub decreases-all : goal.decreases-all
decreases-all l = length (left l.buffer)
