use Rattle.std.proofs.Common.{◌≤◌, inr, sym, ◌∙◌, subst}
use Rattle.pdb_base.specs.declared.index.TypeIndex.{TypeIndex}
use Rattle.pdb_values.specs.Primitive.{first_record}
use Rattle.pdb_tpi.specs.Item.{item_bytes}
use Rattle.pdb_tpi.proofs.LookUpLemmas.{wants_on}
use Rattle.pdb_tpi.proofs.fields.field_list.Goals as goal

pub returns-in_err-value-clause-memory : goal.returns-in_err-value-clause-memory
returns-in_err-value-clause-memory c =
    wants_on c.from_residual-in_err-value.result c.in_err-value.field-0.0 _
    (λ want.
    let needs = c.in_err-value.ensures.memory want in
    let above = subst (λ (i : TypeIndex). first_record ≤ i.0) c.in_ok-item.ensures.index needs.0 in
    inr (
      item_bytes c.in_ok-item.item,
      c.in_ok-item.ensures.item,
      sym c.raw_kind-kind.ensures ∙ c.if-kind-ne-LF_FIELDLIST.false,
      above,
      needs.1,
    ))
    c.from_residual-in_err-value.ensures.1
