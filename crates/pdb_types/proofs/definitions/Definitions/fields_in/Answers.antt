use Rattle.std.proofs.Common.{◌<◌, ◌∙◌, sym, arith, length, map}
use Rattle.std.proofs.lemmas.List.{get_or_default}
use Rattle.pdb_base.proofs.lemmas.Refused.{passed_on}
use Rattle.pdb_values.specs.TypeView.{type_value}
use Rattle.pdb_types.proofs.LayoutLemmas.{fields_refused}
use Rattle.pdb_types.proofs.definitions.Definitions.fields_in.Goals as goal

pub returns-in_err-push_field : goal.returns-in_err-push_field
returns-in_err-push_field c =
    let within : c.loop-value.value-index < length c.args.records.now = omega arith in
    rw (passed_on _ _ c.from_residual.ensures.1)
    (fields_refused _ (map type_value c.args.records.now) c.args.records.now c.loop-value.value-index
    c.value-item.result _ _ c.loop-value.invariant within
    (get_or_default _ _ _ _ within ∙ sym c.value-item.is) c.in_err-push_field.ensures)
