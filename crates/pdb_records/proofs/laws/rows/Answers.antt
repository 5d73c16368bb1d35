use Rattle.pdb_records.proofs.RowLaws.{rows}
use Rattle.pdb_records.proofs.laws.rows.Goals as goal

pub returns : goal.returns
returns g c r = rows r
