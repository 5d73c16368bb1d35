use Rattle.pdb_types.proofs.PartLemmas.{only_parts}
use Rattle.pdb_types.proofs.laws.parts.Goals as goal

pub returns : goal.returns
returns c = only_parts
