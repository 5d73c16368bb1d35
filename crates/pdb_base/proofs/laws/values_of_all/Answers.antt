use Rattle.pdb_base.proofs.lemmas.Collected.{collects_all, refuses_as_first}
use Rattle.pdb_base.proofs.laws.values_of_all.Goals as goal

pub returns : goal.returns
returns g c = record { all = collects_all; first = refuses_as_first }
