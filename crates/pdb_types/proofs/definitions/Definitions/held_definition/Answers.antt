use Rattle.std.proofs.Common.{◌-◌, ◌+◌, arith, sym, ◌∙◌}
use Rattle.pdb_base.proofs.lemmas.Refused.{passed_on}
use Rattle.pdb_values.specs.TypeView.{type_value}
use Rattle.pdb_types.proofs.NeedLemmas.{held_here, held_inner, held_is, held_refused, held_zero}
use Rattle.pdb_types.proofs.definitions.Definitions.held_definition.Goals as goal

pub loop-init : goal.loop-init
loop-init c = held_is c.args.self.now c.args.index.0

pub returns-in_err-value : goal.returns-in_err-value
returns-in_err-value c =
    rw (passed_on _ _ c.from_residual.ensures.1)
    (held_refused (64 - c.loop.counter) c.args.self.now c.loop.index.0 _ _ (omega arith) c.loop.invariant
    (rw c.types.ensures at c.in_err-value.ensures))

pub returns-in-None : goal.returns-in-None
returns-in-None c =
    rw (c.loop.invariant ∙ held_here (64 - c.loop.counter) c.args.self.now c.loop.index.0
    (type_value c.in_ok-value.value) (omega arith) (rw c.types.ensures at c.in_ok-value.ensures)
    (sym c.in-None.is ∙ c.inner_type.ensures)) c.definition_by.ensures

pub loop-preserved : goal.loop-preserved
loop-preserved c =
    c.loop.invariant ∙ held_inner (64 - c.loop.counter) (64 - (c.loop.counter + 1)) c.args.self.now c.loop.index.0
    (type_value c.in_ok-value.value) c.in-Some.inner (omega arith) (rw c.types.ensures at c.in_ok-value.ensures)
    (sym c.in-Some.is ∙ c.inner_type.ensures)

pub returns : goal.returns
returns c = c.loop.invariant ∙ held_zero (64 - c.loop.counter) c.args.self.now c.loop.index.0 (omega arith)
