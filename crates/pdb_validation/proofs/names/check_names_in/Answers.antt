use Rattle.pdb_validation.proofs.NameLemmas.{names_sized}
use Rattle.pdb_validation.proofs.names.check_names_in.Goals as goal

pub check_last-requires : goal.check_last-requires
check_last-requires c = names_sized _ _ _ c.in_ok-names.ensures c.names_size-size.ensures
