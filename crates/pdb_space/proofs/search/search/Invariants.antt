use Rattle.std.proofs.Common.{◌≡◌, ◌-◌, ◌/◌, ◌≤◌, length}
use Rattle.pdb_base.specs.Count.{calls_of, after_calls}
use Rattle.pdb_base.specs.Halving.{binary_digits}
use Rattle.pdb_base.proofs.lemmas.Halving.{IsHalved}
use Rattle.pdb_space.specs.Omap.{mappings_of, source_at}
use Rattle.pdb_space.proofs.search.search.Given as goal

abbrev pub invariant-loop-size : goal.invariant-loop-size
invariant-loop-size l = record {
  found : IsHalved (source_at (mappings_of l.bytes)) (length l.bytes / 8) l.address l.place l.size
      (l.address - l.distance);
  behind : l.distance ≤ l.address;
  counted : after_calls (binary_digits l.size) (calls_of l.count)
      ≡ after_calls (binary_digits (length l.bytes / 8)) (calls_of l.fn.count);
}

abbrev pub decreases-loop-size : goal.decreases-loop-size
decreases-loop-size l = l.size
