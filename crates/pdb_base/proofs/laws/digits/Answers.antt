use Rattle.pdb_base.proofs.lemmas.Halving.{least_to_hold}
use Rattle.pdb_base.proofs.laws.digits.Goals as goal

pub returns : goal.returns
returns c = least_to_hold
