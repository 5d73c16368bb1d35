use Rattle.std.proofs.Common.{◌≢◌, [], drop, sym, ap, ◌∙◌}
use Rattle.pdb_base.proofs.lemmas.Refused.{passed_on}
use Rattle.pdb_tpi.specs.Steps.{WalkPosition}
use Rattle.pdb_tpi.proofs.StepLemmas.{some_left, step_faults}
use Rattle.pdb_tpi.proofs.item_iter.ItemIterFallibleIterator.next.Goals as goal

pub returns-in_err-item : goal.returns-in_err-item
returns-in_err-item g c =
    let s = c.self.inside in
    let some : drop s.position s.table.now.bytes ≢ [] =
    λ none. some_left c.bytes_from.result.now (sym c.is_empty.ensures ∙ c.if-is_empty.false)
    (c.bytes_from.ensures ∙ none) in
    rw (passed_on _ _ c.from_residual.ensures.1)
    (record {
      gives = rw (← c.self.view_is) (step_faults s.table.now s.index s.position _ c.self.invariant some
          (rw (← c.self.view_is) at c.in_err-item.ensures.item));
      kept = c.in_err-item.ensures.kept;
      stays = ap (λ (s : WalkPosition). s.table) c.in_err-item.ensures.kept;
      fewer = tt;
    })
