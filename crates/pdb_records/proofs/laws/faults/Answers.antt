use Rattle.pdb_records.proofs.FaultLemmas.{record_fault}
use Rattle.pdb_records.proofs.laws.faults.Goals as goal

pub returns : goal.returns
returns c = record_fault
