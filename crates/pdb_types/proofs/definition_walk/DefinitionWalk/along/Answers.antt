use Rattle.std.proofs.Common.{true, refl, inl, arith, sym, ◌∙◌}
use Rattle.std.proofs.lemmas.Bool.{both_ways}
use Rattle.pdb_base.proofs.lemmas.Refused.{passed_on}
use Rattle.pdb_types.specs.DefinitionWalk.{gives_up}
use Rattle.pdb_types.proofs.NumberLemmas.{all_still, found_more, found_all, found_stopped}
use Rattle.pdb_types.proofs.definition_walk.DefinitionWalk.along.Goals as goal

pub loop-found-init : goal.loop-found-init
loop-found-init c = (
  refl,
  record {
    same = rw c.iter-items.ensures refl;
    least = rw c.iter-items.ensures (omega arith);
    so_far = rw (c.iter-items.ensures, c.new.ensures.items) (all_still c.args.numbering c.args.table.now);
  },
)

pub returns-in_err-item-clause-walked : goal.returns-in_err-item-clause-walked
returns-in_err-item-clause-walked c = rw (passed_on _ _ c.from_residual.ensures.1)
    (inl (found_stopped _ _ _ _ _ _ _ c.loop-found.invariant.1 c.in_err-item.ensures))

pub loop-found-preserved : goal.loop-found-preserved
loop-found-preserved c = (
  c.in_ok-note.ensures.kept ∙ c.loop-found.invariant.0,
  rw (c.in_ok-note.ensures.added, c.loop-found.invariant.0)
      (found_more _ _ _ _ _ _ _ c.loop-found.invariant.1 (rw c.in-Some.is at c.in_ok-item.ensures)),
)

pub returns-then-gives_up-clause-walked : goal.returns-then-gives_up-clause-walked
returns-then-gives_up-clause-walked c = λ not. absurd (both_ways _ not (sym c.gives_up.ensures ∙ c.if-gives_up.true))

pub returns-clause-walked : goal.returns-clause-walked
returns-clause-walked c = λ not.
    found_all _ _ _ _ _ _ c.loop-found.invariant.1 (rw c.in_default.is at c.in_ok-item.ensures)
