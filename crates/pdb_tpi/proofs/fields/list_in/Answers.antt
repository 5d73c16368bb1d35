use Rattle.std.proofs.Common.{◌≡◌, List, map, ap, ◌∙◌, sym}
use Rattle.pdb_base.proofs.lemmas.Collected.{ok}
use Rattle.pdb_values.specs.declared.field_list.FieldList.{FieldList, fold_out-FieldList}
use Rattle.pdb_values.specs.declared.type_data.TypeData.TheVariants as variants
use Rattle.pdb_values.specs.declared.type_data.TypeData.TheVariants.{rolls-FieldList}
use Rattle.pdb_values.specs.declared.type_data.TypeData.{fold-roll-TypeData}
use Rattle.pdb_values.specs.declared.type_data.TypeData.TheOpen.{TypeData-F}
use Rattle.pdb_values.specs.TypeValue.{TypeValue}
use Rattle.pdb_values.specs.TypeView.{type_value, field_list_value, view_step, list_step}
use Rattle.pdb_values.proofs.lemmas.Fields as fields
use Rattle.pdb_tpi.specs.Chain.{ContinuedList, as_field_list}
use Rattle.pdb_tpi.proofs.fields.list_in.Goals as goal

list_seen : (list : FieldList) → type_value (variants.FieldList list) ≡ field_list_value list
list_seen list = ap type_value (sym (rolls-FieldList list))
    ∙ fold-roll-TypeData TypeValue TypeValue view_step list_step (TypeData-F.FieldList list)
    ∙ fold_out-FieldList TypeValue TypeValue view_step list_step list

pub returns-in-FieldList : goal.returns-in-FieldList
returns-in-FieldList c =
    let list = c.in-FieldList.list in
    ap (λ (value : TypeValue). as_field_list c.args.kind value) (ap type_value c.in-FieldList.is ∙ list_seen list)
    ∙ ap (λ (fields : List TypeValue). ok {A = ContinuedList}
    (record { fields = fields; continuation = list.continuation }))
    (fields.listed (map type_value list.fields.items))
