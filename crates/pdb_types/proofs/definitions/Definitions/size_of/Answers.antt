use Rattle.std.proofs.Common.{◌∙◌, sym}
use Rattle.pdb_base.proofs.lemmas.Refused.{passed_on}
use Rattle.pdb_types.proofs.SizeLemmas.{is_above, is_below, size_above, size_refused, size_same, size_stated}
use Rattle.pdb_types.proofs.SizeLemmas.{size_unknown}
use Rattle.pdb_types.proofs.definitions.Definitions.size_of.Goals as goal

pub returns-in_err-size : goal.returns-in_err-size
returns-in_err-size c = rw (passed_on _ _ c.from_residual.ensures.1)
    (size_refused _ _ _ _ c.loop-size.invariant c.in_err-size.ensures)

pub returns-in-Stated : goal.returns-in-Stated
returns-in-Stated c = c.loop-size.invariant ∙ size_stated _ _ _ (rw c.in-Stated.is at c.in_ok-size.ensures)

pub returns-then-ge : goal.returns-then-ge
returns-then-ge c =
    c.loop-size.invariant ∙ size_above _ _ _ (rw c.in-SameAs.is at c.in_ok-size.ensures)
    (is_above _ _ (sym c.ge.ensures ∙ c.if-ge.true))

pub loop-size-preserved : goal.loop-size-preserved
loop-size-preserved c =
    c.loop-size.invariant ∙ size_same _ _ _ (rw c.in-SameAs.is at c.in_ok-size.ensures)
    (is_below _ _ (sym c.ge.ensures ∙ c.if-ge.false)) ∙ c.along_shortcut-index-in-SameAs.ensures.same

pub returns-in-Unknown : goal.returns-in-Unknown
returns-in-Unknown c = c.loop-size.invariant ∙ size_unknown _ _ (rw c.in-Unknown.is at c.in_ok-size.ensures)
