use Rattle.std.proofs.Common.{[], refl, sym, ap, inr, ◌∙◌}
use Rattle.pdb_base.proofs.lemmas.Refused.{passed_on}
use Rattle.pdbdump_tables.specs.Tables.{all_names, next_place}
use Rattle.pdbdump_tables.proofs.TableLemmas.{name_first, name_step, name_end, name_none, name_most}
use Rattle.pdbdump_rows.proofs.lemmas.Rows.{so_far_all, so_far_cut, so_far_more, so_far_none}
use Rattle.pdbdump_rows.proofs.lemmas.Line.{row_written}
use Rattle.pdbdump_tables.proofs.names.write_table.Goals as goal

pub loop-init : goal.loop-init
unfolding all_names
loop-init g c = so_far_none _ _ _

pub returns-in_default : goal.returns-in_default
returns-in_default g c = (
  refl,
  so_far_all _ _ _ _ _ (name_none _ _ _ _ c.in_default.ensures) c.loop.invariant,
)

pub returns-in_default-next_place : goal.returns-in_default-next_place
returns-in_default-next_place g c =
    let more = sym c.in_default-next_place.is ∙ c.next_place.ensures ∙ ap (next_place c.loop.place) c.len.ensures in
    let step = name_end 0xffffffff c.loop.counter c.args.table.now c.loop.place c.in-Ok.name.0.now
    c.loop-test.true c.in-Ok.ensures more in (
      refl,
      so_far_all _ _ _ _ _ refl (so_far_more _ _ _ [] _ _ _ _ step c.loop.invariant
          (row_written _ _ _ _ _ _ _ c.in_ok-write_line.ensures c.show_name.ensures c.begin.ensures)),
    )

pub loop-preserved : goal.loop-preserved
loop-preserved g c =
    let more = sym c.in-Some.is ∙ c.next_place.ensures ∙ ap (next_place c.loop.place) c.len.ensures in
    let step = name_step 0xffffffff c.loop.counter c.args.table.now c.loop.place c.in-Ok.name.0.now
    c.in-Some.next c.loop-test.true c.in-Ok.ensures more in
    so_far_more _ _ _ _ _ _ _ _ step c.loop.invariant
    (row_written _ _ _ _ _ _ _ c.in_ok-write_line.ensures c.show_name.ensures c.begin.ensures)

pub returns : goal.returns
returns g c = (refl, so_far_all _ _ _ _ _ (name_most _ _ _ _ c.loop-test.false) c.loop.invariant)

pub returns-in_err-write_line : goal.returns-in_err-write_line
returns-in_err-write_line g c =
    let next = name_first 0xffffffff c.loop.counter c.args.table.now c.loop.place c.in-Ok.name.0.now
    c.loop-test.true c.in-Ok.ensures in
    rw (passed_on _ _ c.from_residual.ensures.1)
    (inr (so_far_cut _ _ _ _ _ _ _ _ _ next c.loop.invariant
    (row_written _ _ _ _ _ _ _ c.in_err-write_line.ensures c.show_name.ensures c.begin.ensures)))
