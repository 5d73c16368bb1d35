use Rattle.std.proofs.Common.{length}
use Rattle.pdbdump_tables.proofs.breakpad_frames.has_program.Given as goal

abbrev pub decreases-loop-frame : goal.decreases-loop-frame
decreases-loop-frame l = length l.frames
