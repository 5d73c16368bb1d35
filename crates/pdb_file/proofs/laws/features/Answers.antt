use Rattle.pdb_file.proofs.FeatureLaws.{finds_features}
use Rattle.pdb_file.proofs.laws.features.Goals as goal

pub returns : goal.returns
returns c = finds_features
