use Rattle.std.proofs.Common.{◌≡◌, ◌^◌, ◌<◌, length, take}
use Rattle.pdb_msf.specs.Source.{positions}
use Rattle.pdb_msf.proofs.source.total_size.Given as goal

abbrev pub invariant-loop-slice : goal.invariant-loop-slice
invariant-loop-slice l = record {
  is : l.total ≡ length (positions (take l.slice-index l.slices));
  fits : l.total < 2 ^ 64;
}
