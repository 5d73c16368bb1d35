use Rattle.std.proofs.Common.{◌≡◌}
use Rattle.pdb_tpi.specs.Steps.{items_left}
use Rattle.pdb_types.proofs.NumberLemmas.{AreFound}
use Rattle.pdb_types.proofs.definition_walk.DefinitionWalk.along.Given as goal

abbrev pub invariant-loop-found : goal.invariant-loop-found
invariant-loop-found l = (l.found.numbering ≡ l.fn.numbering)
    × AreFound l.fn.numbering l.table l.found.numbers.items l.items

abbrev pub decreases-loop-found : goal.decreases-loop-found
decreases-loop-found l = items_left l.items
