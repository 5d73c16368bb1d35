-- The frames so far and those that are left are all frames.
use Rattle.std.proofs.Common.{◌≡◌, ◌++◌, length, map}
use Rattle.pdb_frames.specs.Merge.{by_heads}
use Rattle.pdb_handles.specs.Frame.{frame_of}
use Rattle.pdb_handles.proofs.frames.all_frames.Given as goal

abbrev pub invariant-loop-frame : goal.invariant-loop-frame
invariant-loop-frame l = l.all.items ++ map frame_of l.frames ≡ map frame_of (by_heads l.table.old l.table.new)

abbrev pub decreases-loop-frame : goal.decreases-loop-frame
decreases-loop-frame l = length l.frames
