use Rattle.pdb_space.proofs.SectionLemmas.{finds_first}
use Rattle.pdb_space.proofs.laws.places.Goals as goal

pub returns-clause-first : goal.returns-clause-first
returns-clause-first c = finds_first
