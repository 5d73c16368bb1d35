use Rattle.std.proofs.Common.{◌≡◌, drop}
use Rattle.pdb_validation.specs.References.{first_from}
use Rattle.pdb_validation.proofs.references.first_from.Given as goal

abbrev pub invariant-loop-number : goal.invariant-loop-number
invariant-loop-number l = first_from l.least (drop l.number-index l.numbers) ≡ first_from l.least l.numbers
