use Rattle.pdb_msf.proofs.LawLemmas.{are_good, first_fault}
use Rattle.pdb_msf.proofs.laws.page_numbers.Goals as goal

pub returns : goal.returns
returns g = record { good = are_good; fault = first_fault }
