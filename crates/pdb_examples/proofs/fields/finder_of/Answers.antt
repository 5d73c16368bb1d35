use Rattle.std.proofs.Common.{sym}
use Rattle.pdb_base.proofs.lemmas.Collected.{ok_is}
use Rattle.pdb_tpi.proofs.StepLemmas.{step_none}
use Rattle.pdb_examples.proofs.FinderLemmas.{shown_first, shown_more, shown_whole}
use Rattle.pdb_examples.proofs.fields.finder_of.Goals as goal

pub loop-finder-init : goal.loop-finder-init
loop-finder-init c = shown_first _ _ _ c.iter-items.ensures (sym (ok_is _ _ c.in_ok-finder.ensures.finder))

pub loop-finder-preserved : goal.loop-finder-preserved
loop-finder-preserved c = shown_more _ _ _ _ _ _ _ c.loop-finder.invariant
    (rw c.in-Some.is at rw c.in_ok-next.was at c.next.ensures) c.update.ensures.next

pub returns : goal.returns
returns c = shown_whole _ _ _ c.loop-finder.invariant
    (step_none _ _ _ (rw c.in_default.is at rw c.in_ok-next.was at c.next.ensures)).0
