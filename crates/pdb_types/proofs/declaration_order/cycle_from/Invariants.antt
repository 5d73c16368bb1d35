use Rattle.std.proofs.Common.{◌≡◌, drop}
use Rattle.pdb_types.specs.Steps.{cycle_from}
use Rattle.pdb_types.proofs.StepLemmas.{cycle_behind}
use Rattle.pdb_types.proofs.declaration_order.cycle_from.Given as goal

abbrev pub invariant-loop-step : goal.invariant-loop-step
invariant-loop-step l = cycle_from l.steps l.first ≡ cycle_behind l.cycle.items (drop l.step-index l.steps) l.first
