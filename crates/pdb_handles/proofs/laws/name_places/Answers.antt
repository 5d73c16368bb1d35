use Rattle.pdb_handles.proofs.NamesLemmas.{stands}
use Rattle.pdb_handles.proofs.laws.name_places.Goals as goal

pub returns : goal.returns
returns c = stands c.string_tables.ensures.found c.names.ensures
