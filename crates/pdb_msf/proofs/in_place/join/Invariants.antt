use Rattle.std.proofs.Common.{◌≡◌, ◌≤◌, drop, length, true}
use Rattle.pdb_msf.specs.InPlace.{can_be_joined}
use Rattle.pdb_msf.proofs.JoinLemmas.{IsJoined}
use Rattle.pdb_msf.proofs.in_place.join.Given as goal

abbrev pub invariant-loop-slice : goal.invariant-loop-slice
invariant-loop-slice l = record {
  can : can_be_joined (length l.fn.file) l.front (drop l.slice-index l.slices) ≡ true;
  is : IsJoined l.fn.file l.slices l.slice-index l.front l.file;
  within : l.front ≤ length l.fn.file;
}
