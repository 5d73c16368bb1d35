use Rattle.std.proofs.Common.{◌≡◌, take}
use Rattle.pdb_types.specs.Steps.{pushed}
use Rattle.pdb_types.proofs.declaration_order.push_entered.Given as goal

abbrev pub invariant-loop-index : goal.invariant-loop-index
invariant-loop-index l = l.steps.items ≡ pushed l.initial.steps.items (take l.index-index l.indexes)
