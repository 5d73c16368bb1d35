use Rattle.pdb_base.proofs.lemmas.Records.{read_in_turn}
use Rattle.pdb_base.proofs.laws.records.Goals as goal

pub returns : goal.returns
returns g c = read_in_turn
