use Rattle.std.proofs.Common.{◌∙◌, refl}
use Rattle.pdbdump_differences.proofs.differences.tell_unknown.Goals as goal

pub loop-name-init : goal.loop-name-init
loop-name-init g c = ((λ start was. was), refl)

pub loop-name-preserved : goal.loop-name-preserved
loop-name-preserved g c = (
  (λ start was. c.in_ok-tell_if_unknown.ensures.accounted start (c.loop-name.invariant.0 start was)),
  c.in_ok-tell_if_unknown.ensures.shown ∙ c.loop-name.invariant.1,
)
