-- Lines were written so far.
use Rattle.std.proofs.Common.{Ok, length}
use Rattle.pdbdump_rows.specs.declared.form.Form.TheVariants.{Text}
use Rattle.pdbdump_rows.specs.Rows.{WritesLines}
use Rattle.pdbdump_tables.proofs.breakpad_frames.write_frames.Given as goal

abbrev pub invariant-loop-frame : goal.invariant-loop-frame
invariant-loop-frame g l = WritesLines Text l.fn.out l.out (Ok tt)

abbrev pub decreases-loop-frame : goal.decreases-loop-frame
decreases-loop-frame g l = length l.frames
