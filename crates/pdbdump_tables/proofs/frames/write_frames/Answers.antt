use Rattle.std.proofs.Common.{inr}
use Rattle.pdb_base.proofs.lemmas.Refused.{passed_on}
use Rattle.pdbdump_rows.proofs.lemmas.Rows.{so_far_cut, so_far_more, so_far_none}
use Rattle.pdbdump_tables.proofs.TableLemmas.{frame_next, given_first}
use Rattle.pdbdump_rows.proofs.lemmas.Line.{row_written}
use Rattle.pdbdump_tables.proofs.frames.write_frames.Goals as goal

pub loop-frame-init : goal.loop-frame-init
loop-frame-init g c = rw c.iter-frames.ensures.heads (so_far_none _ _ _)

pub loop-frame-preserved : goal.loop-frame-preserved
loop-frame-preserved g c =
    let first = given_first c.loop-frame.frames c.next.new.self c.in-Ok-Some.frame
    (rw c.in-Ok-Some.field-0-is at c.in-Ok-Some.ensures.first) c.in-Ok-Some.ensures.others in
    let next = frame_next c.loop-frame.frames c.in-Ok-Some.frame c.next.new.self first in
    so_far_more _ _ _ _ _ _ _ _ next c.loop-frame.invariant
    (row_written _ _ _ _ _ _ _ c.in_ok-write_line.ensures c.show_frame.ensures c.begin.ensures)

pub returns-in_err-write_line : goal.returns-in_err-write_line
returns-in_err-write_line g c =
    let first = given_first c.loop-frame.frames c.next.new.self c.in-Ok-Some.frame
    (rw c.in-Ok-Some.field-0-is at c.in-Ok-Some.ensures.first) c.in-Ok-Some.ensures.others in
    let next = frame_next c.loop-frame.frames c.in-Ok-Some.frame c.next.new.self first in
    rw (passed_on _ _ c.from_residual.ensures.1)
    (inr (so_far_cut _ _ _ _ _ _ _ _ _ next c.loop-frame.invariant
    (row_written _ _ _ _ _ _ _ c.in_err-write_line.ensures c.show_frame.ensures c.begin.ensures)))
