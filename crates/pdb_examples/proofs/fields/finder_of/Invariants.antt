use Rattle.pdb_container.specs.Steps.{items_left}
use Rattle.pdb_examples.proofs.FinderLemmas.{IsShown}
use Rattle.pdb_examples.proofs.fields.finder_of.Given as goal

abbrev pub invariant-loop-finder : goal.invariant-loop-finder
invariant-loop-finder l = IsShown l.types l.items l.finder

abbrev pub decreases-loop-finder : goal.decreases-loop-finder
decreases-loop-finder l = items_left l.items
