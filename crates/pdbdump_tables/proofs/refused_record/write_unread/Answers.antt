-- What stands there at each exit.
use Rattle.std.proofs.Common.{ap, ◌∙◌}
use Rattle.pdb_base.proofs.lemmas.Refused.{passed_on}
use Rattle.pdbdump_rows.specs.Lines.{full_text}
use Rattle.pdbdump_rows.proofs.lemmas.Line.{made_written}
use Rattle.pdbdump_tables.proofs.ShownLemmas.{row_cut, row_shown}
use Rattle.pdbdump_tables.proofs.refused_record.write_unread.Goals as goal

pub returns-in_err-write : goal.returns-in_err-write
returns-in_err-write g c =
    let number = g.met.I.ItemIndex.turns_into c.index.result c.into-index.result c.into-index.ensures
    ∙ ap g.I.ItemIndex.number c.index.ensures in
    let made = rw number at c.in_ok-make_refused.ensures in
    rw (passed_on _ _ c.from_residual-in_err-write.ensures.1)
    (row_cut _ _ _ _ _
    (made_written (full_text c.args.form) _ _ _ _ _ _ made c.as_bytes.ensures c.in_err-write.ensures.bytes))

pub returns : goal.returns
returns g c =
    let number = g.met.I.ItemIndex.turns_into c.index.result c.into-index.result c.into-index.ensures
    ∙ ap g.I.ItemIndex.number c.index.ensures in
    let made = rw number at c.in_ok-make_refused.ensures in
    row_shown _ _ _ _ _
    (made_written (full_text c.args.form) _ _ _ _ _ _ made c.as_bytes.ensures c.in_ok-write.ensures.bytes)
