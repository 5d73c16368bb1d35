use Rattle.std.proofs.Common.{◌≡◌, drop}
use Rattle.pdb_validation.specs.References.{first_from, method_references}
use Rattle.pdb_validation.proofs.references.first_method_from.Given as goal

abbrev pub invariant-loop-method : goal.invariant-loop-method
invariant-loop-method l =
    first_from l.least (method_references (drop l.method-index l.methods))
    ≡ first_from l.least (method_references l.methods)
