use Rattle.std.proofs.Common.{◌≡◌, ◌+◌, ◌++◌, length, map, take, slice_index}
use Rattle.std.specs.Prelude.{IsTrue}
use Rattle.pdb_msf.specs.Source.{positions, slice_positions}
use Rattle.pdb_msf.specs.Within.{is_within}
use Rattle.pdb_msf.proofs.file_source.read_slices.Given as goal

-- What is read so far, followed by the run, is what the slices so far name.
abbrev pub invariant-loop-slice : goal.invariant-loop-slice
invariant-loop-slice g l = record {
  kept : g.F.ReadAt.contents l.file ≡ g.F.ReadAt.contents l.fn.file;
  within : IsTrue (is_within l.len l.run);
  read : IsTrue (g.F.ReadAt.contents l.fn.file).is_fixed
      → l.bytes.items ++ map (slice_index (g.F.ReadAt.contents l.fn.file).bytes) (slice_positions l.run)
      ≡ map (slice_index (g.F.ReadAt.contents l.fn.file).bytes) (positions (take l.slice-index l.slices));
  len : length l.bytes.items + l.run.size ≡ length (positions (take l.slice-index l.slices));
}
