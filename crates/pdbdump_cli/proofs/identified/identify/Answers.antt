use Rattle.pdbdump_cli.proofs.WrittenLemmas.{answered}
use Rattle.pdbdump_cli.proofs.identified.identify.Goals as goal

pub returns-in-Ok : goal.returns-in-Ok
returns-in-Ok g c = answered _ _ c.in-Ok.identity _ _ c.in-Ok.ensures c.write_found.ensures
