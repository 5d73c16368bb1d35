use Rattle.pdb_file.proofs.FaultLaws.{finds_named}
use Rattle.pdb_file.proofs.laws.stream_names.Goals as goal

pub returns : goal.returns
returns c = finds_named
