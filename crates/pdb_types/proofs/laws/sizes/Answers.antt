use Rattle.pdb_types.proofs.SizeLemmas.{are_sizes, only_sizes}
use Rattle.pdb_types.proofs.laws.sizes.Goals as goal

pub returns-clause-are : goal.returns-clause-are
returns-clause-are c = are_sizes

pub returns-clause-only : goal.returns-clause-only
returns-clause-only c = only_sizes
