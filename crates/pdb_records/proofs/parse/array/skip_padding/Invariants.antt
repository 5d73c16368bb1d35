-- What is left has the same padding in front.
use Rattle.std.proofs.Common.{◌≡◌, length}
use Rattle.pdb_base.specs.Place.{left}
use Rattle.pdb_records.specs.Padding.{padding_at}
use Rattle.pdb_records.proofs.parse.array.skip_padding.Given as goal

abbrev pub invariant-loop-buffer : goal.invariant-loop-buffer
invariant-loop-buffer l = padding_at (left l.fn.buffer) ≡ padding_at (left l.buffer)

abbrev pub decreases-loop-buffer : goal.decreases-loop-buffer
decreases-loop-buffer l = length (left l.buffer)
