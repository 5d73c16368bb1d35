use Rattle.std.proofs.Common.{refl}
use Rattle.pdb_base.proofs.lemmas.Refused.{passed_on}
use Rattle.pdbdump_tables.specs.Reading.{unread, written}
use Rattle.pdbdump_tables.proofs.lemmas.Reading.{read_of}
use Rattle.pdbdump_tables.proofs.map.list_map.Goals as goal

pub returns-in_err-map : goal.returns-in_err-map
returns-in_err-map g c =
    unread _ (passed_on _ _ c.from_residual.ensures.1) (read_of _ _ _ _ _ c.in_err-map.ensures) refl

pub returns : goal.returns
returns g c = written _ (read_of _ _ _ _ _ c.in_ok-map.ensures) c.write_map.ensures
