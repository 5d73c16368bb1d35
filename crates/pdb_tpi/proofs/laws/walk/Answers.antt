use Rattle.pdb_tpi.proofs.LawLemmas.{walks_once}
use Rattle.pdb_tpi.proofs.laws.walk.Goals as goal

pub returns-clause-once : goal.returns-clause-once
returns-clause-once g limit bytes fits = walks_once limit bytes fits
