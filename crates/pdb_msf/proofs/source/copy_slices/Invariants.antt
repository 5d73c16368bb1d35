use Rattle.std.proofs.Common.{◌≡◌, map, take, slice_index}
use Rattle.pdb_msf.specs.Source.{positions}
use Rattle.pdb_msf.proofs.source.copy_slices.Given as goal

abbrev pub invariant-loop-slice : goal.invariant-loop-slice
invariant-loop-slice l = l.bytes.items ≡ map (slice_index l.file) (positions (take l.slice-index l.slices))
