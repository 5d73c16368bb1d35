use Rattle.std.proofs.Common.{◌∙◌}
use Rattle.pdb_values.specs.TypeView.{type_value}
use Rattle.pdb_handles.specs.Fields.{field_info, name_bytes}
use Rattle.pdb_handles.proofs.ListingLemmas.{listed_more}
use Rattle.pdb_handles.proofs.fields.collect_fields.Goals as goal

pub loop-field-preserved : goal.loop-field-preserved
loop-field-preserved c =
    listed_more type_value field_info name_bytes c.args.fields.now c.loop-field.field-index c.field-item.result _
    c.loop-field.rows.items c.push.new.self.items c.loop-field.names.items c.push_name.new.names.items
    c.name_bytes.result.now c.field_row.result c.len.result c.loop-field-test.true c.field-item.is
    c.loop-field.invariant.0 c.loop-field.invariant.1 (c.len.ensures ∙ c.loop-field.names.ok.0)
    c.field_row.ensures c.in_ok-push.ensures.items c.name_bytes.ensures c.in_ok-push_name.ensures.ok
