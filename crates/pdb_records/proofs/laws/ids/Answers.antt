use Rattle.pdb_records.proofs.IdLaws.{one_id}
use Rattle.pdb_records.proofs.laws.ids.Goals as goal

pub returns-clause-one : goal.returns-clause-one
returns-clause-one c = one_id
