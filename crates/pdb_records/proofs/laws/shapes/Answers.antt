use Rattle.pdb_records.proofs.ShapeLaws.{shapes}
use Rattle.pdb_records.proofs.laws.shapes.Goals as goal

pub returns : goal.returns
returns c shape = shapes shape
