use Rattle.std.proofs.Common.{inl, inr}
use Rattle.pdb_base.proofs.lemmas.Refused.{passed_on}
use Rattle.pdbdump_rows.proofs.lemmas.Rows.{lines_more, lines_none}
use Rattle.pdbdump_tables.proofs.breakpad_frames.write_frames.Goals as goal

pub loop-frame-init : goal.loop-frame-init
loop-frame-init g c = lines_none _ _

pub returns-in_err-program : goal.returns-in_err-program
returns-in_err-program g c = inl c.loop-frame.invariant

pub returns-in_err-write_frame : goal.returns-in_err-write_frame
returns-in_err-write_frame g c =
    rw (passed_on _ _ c.from_residual-in_err-write_frame.ensures.1)
    (inr (lines_more _ _ _ _ _ c.in_err-write_frame.ensures c.loop-frame.invariant))

pub returns : goal.returns
returns g c = inl c.loop-frame.invariant
