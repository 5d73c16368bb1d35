use Rattle.std.proofs.Common.{◌∙◌}
use Rattle.pdb_handles.proofs.LayoutRowLemmas.{laid_out}
use Rattle.pdb_handles.proofs.layout_row.write_layout.Goals as goal

pub returns-in-Ok : goal.returns-in-Ok
returns-in-Ok c =
    laid_out c.args.layout.now c.args.rows.now _ c.args.names.now _ _ c.requires
    (c.deref.ensures.value ∙ c.in-Ok.ensures.rows) (c.deref-in-Ok.ensures.value ∙ c.in-Ok.ensures.names)
    c.copy_both.ensures
