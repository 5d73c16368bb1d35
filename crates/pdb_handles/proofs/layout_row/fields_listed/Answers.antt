use Rattle.std.proofs.Common.{refl, ◌∙◌}
use Rattle.pdb_types.specs.Layout.{field_value}
use Rattle.pdb_handles.specs.LayoutRow.{field_entry, field_name}
use Rattle.pdb_handles.proofs.ListingLemmas.{listed_more}
use Rattle.pdb_handles.proofs.layout_row.fields_listed.Goals as goal

pub loop-field-preserved : goal.loop-field-preserved
loop-field-preserved c =
    listed_more field_value field_entry field_name c.args.fields.now c.loop-field.field-index _ _
    c.loop-field.rows.items c.push.new.self.items c.loop-field.names.items c.push_name.new.names.items
    c.field_name.result.now c.field_row.result c.len.result c.loop-field-test.true refl
    c.loop-field.invariant.0 c.loop-field.invariant.1 (c.len.ensures ∙ c.loop-field.names.ok.0)
    c.field_row.ensures c.in_ok-push.ensures.items c.field_name.ensures c.in_ok-push_name.ensures.ok
