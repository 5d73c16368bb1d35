-- The rows of the frames that are left are still to be written.
use Rattle.std.proofs.Common.{length}
use Rattle.pdb_frames.specs.Merge.{by_heads}
use Rattle.pdbdump_rows.specs.Rows.{AreRowsSoFar}
use Rattle.pdbdump_tables.specs.Tables.{frame_rows}
use Rattle.pdbdump_tables.proofs.frames.write_frames.Given as goal

abbrev pub invariant-loop-frame : goal.invariant-loop-frame
invariant-loop-frame g l = AreRowsSoFar l.form (frame_rows (by_heads l.table.old l.table.new)) (frame_rows l.frames)
    l.fn.out l.out

abbrev pub decreases-loop-frame : goal.decreases-loop-frame
decreases-loop-frame g l = length l.frames
