use Rattle.pdb_msf.proofs.LawLemmas.{is_least}
use Rattle.pdb_msf.proofs.laws.pages.Goals as goal

pub returns : goal.returns
returns g page_size bytes positive = is_least page_size bytes positive
