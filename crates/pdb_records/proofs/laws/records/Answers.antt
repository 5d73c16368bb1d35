use Rattle.pdb_records.proofs.GrammarLaws.{one_record}
use Rattle.pdb_records.proofs.laws.records.Goals as goal

pub returns-clause-one : goal.returns-clause-one
returns-clause-one c = one_record
