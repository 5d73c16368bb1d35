use Rattle.std.proofs.Common.{◌-◌, ◌/◌, ◌≤◌, length}
use Rattle.pdb_base.specs.Records.{values_of_size}
use Rattle.pdb_base.proofs.lemmas.Halving.{IsHalved}
use Rattle.pdb_frames.specs.Span.{start_at}
use Rattle.pdb_frames.proofs.search.search.Given as goal

abbrev pub invariant-loop-size : goal.invariant-loop-size
invariant-loop-size g l = record {
  found : IsHalved (start_at g.R.AddrRange.span (values_of_size g.R.FrameRecord.SIZE g.R.FrameRecord.value l.bytes))
      (length l.bytes / g.R.FrameRecord.SIZE) l.address l.place l.size (l.address - l.distance);
  behind : l.distance ≤ l.address;
}

abbrev pub decreases-loop-size : goal.decreases-loop-size
decreases-loop-size g l = l.size
