use Rattle.pdb_base.proofs.lemmas.Refused.{passed_on}
use Rattle.pdbdump_rows.proofs.lemmas.Rows.{so_far_cut, so_far_more, so_far_none}
use Rattle.pdbdump_tables.proofs.TableLemmas.{omap_next}
use Rattle.pdbdump_rows.proofs.lemmas.Line.{row_written}
use Rattle.pdbdump_tables.proofs.omap.write_records.Goals as goal

pub loop-record-init : goal.loop-record-init
loop-record-init g c =
    rw (c.into_iter-record-iterator.ensures.into_iter_gives, c.records-record-items.ensures) (so_far_none _ _ _)

pub loop-record-preserved : goal.loop-record-preserved
loop-record-preserved g c =
    let next = omap_next c.loop-record.record-iterator c.in-Some.record c.next.new.self
    c.in-Some.ensures.steps in
    so_far_more _ _ _ _ _ _ _ _ next c.loop-record.invariant
    (row_written _ _ _ _ _ _ _ c.in_ok-write_line.ensures c.show_omap.ensures c.begin.ensures)

pub returns-in_err-write_line : goal.returns-in_err-write_line
returns-in_err-write_line g c =
    let next = omap_next c.loop-record.record-iterator c.in-Some.record c.next.new.self
    c.in-Some.ensures.steps in
    rw (passed_on _ _ c.from_residual.ensures.1)
    (so_far_cut _ _ _ _ _ _ _ _ _ next c.loop-record.invariant
    (row_written _ _ _ _ _ _ _ c.in_err-write_line.ensures c.show_omap.ensures c.begin.ensures))
