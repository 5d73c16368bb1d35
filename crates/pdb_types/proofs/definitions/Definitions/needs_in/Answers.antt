use Rattle.std.proofs.Common.{◌<◌, ◌∙◌, sym, arith, length}
use Rattle.std.proofs.lemmas.List.{get_or_default}
use Rattle.pdb_base.proofs.lemmas.Refused.{passed_on}
use Rattle.pdb_types.proofs.NeedLemmas.{needs_more, needs_refused}
use Rattle.pdb_types.proofs.definitions.Definitions.needs_in.Goals as goal

pub returns-in_err-push_need : goal.returns-in_err-push_need
returns-in_err-push_need c =
    let within : c.loop-value.value-index < length c.args.records.now = omega arith in
    rw (passed_on _ _ c.from_residual.ensures.1)
    (needs_refused _ _ c.args.records.now c.loop-value.value-index c.value-item.result _ _ c.loop-value.invariant within
    (get_or_default _ _ _ _ within ∙ sym c.value-item.is) c.in_err-push_need.ensures)

pub loop-value-preserved : goal.loop-value-preserved
loop-value-preserved c =
    let within : c.loop-value.value-index < length c.args.records.now = omega arith in
    needs_more _ _ c.args.records.now c.loop-value.value-index c.value-item.result _ _ c.loop-value.invariant within
    (get_or_default _ _ _ _ within ∙ sym c.value-item.is) c.in_ok-push_need.ensures
