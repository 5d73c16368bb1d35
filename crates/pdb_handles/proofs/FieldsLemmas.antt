-- The fields of a list of fields.
use Rattle.std.proofs.Common.{◌≡◌, List, map, ap, sym, ◌∙◌, Some}
use Rattle.pdb_values.specs.declared.field_list.FieldList.{FieldList, fold_out-FieldList}
use Rattle.pdb_values.specs.TypeView.{type_value, field_list_value, view_step, list_step}
use Rattle.pdb_values.specs.declared.type_data.TypeData.{fold-roll-TypeData}
use Rattle.pdb_values.specs.declared.type_data.TypeData.TheVariants.{rolls-FieldList}
use Rattle.pdb_values.specs.{declared.type_data.TypeData.TheOpen.TypeData-F, TypeValue.TypeValue}
use Rattle.pdb_values.specs.declared.type_data.TypeData.TheVariants as variants
use Rattle.pdb_values.proofs.lemmas.Fields.{listed}
use Rattle.pdb_handles.specs.Fields.{own_fields, listing}

list_seen : (list : FieldList) → type_value (variants.FieldList list) ≡ field_list_value list
list_seen list = ap type_value (sym (rolls-FieldList list))
    ∙ fold-roll-TypeData TypeValue TypeValue view_step list_step (TypeData-F.FieldList list)
    ∙ fold_out-FieldList TypeValue TypeValue view_step list_step list

-- what is listed of a list of fields
pub fields_seen : (list : FieldList)
    → own_fields (type_value (variants.FieldList list)) ≡ Some (listing (map type_value list.fields.items))
fields_seen list =
    ap (λ (value : TypeValue). own_fields value) (list_seen list)
    ∙ ap (λ (values : List TypeValue). Some (listing values)) (listed (map type_value list.fields.items))
