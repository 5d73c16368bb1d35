use Rattle.pdb_records.specs.Row.{Assigns, Stops, row}
use Rattle.pdb_records.proofs.RowLaws.{rows}
use Rattle.pdb_records.proofs.ToEndLaws.{to_end_agrees}
use Rattle.pdb_records.proofs.laws.lists.Goals as goal

pub returns : goal.returns
returns g c r takes = to_end_agrees (row r) (Assigns r) (Stops r) (rows r) takes
