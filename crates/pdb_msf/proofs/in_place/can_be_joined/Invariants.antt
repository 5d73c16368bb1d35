use Rattle.std.proofs.Common.{◌≡◌, drop}
use Rattle.pdb_msf.specs.InPlace.{can_be_joined}
use Rattle.pdb_msf.proofs.in_place.can_be_joined.Given as goal

abbrev pub invariant-loop-slice : goal.invariant-loop-slice
invariant-loop-slice l = can_be_joined l.len 0 l.slices ≡ can_be_joined l.len l.front (drop l.slice-index l.slices)
