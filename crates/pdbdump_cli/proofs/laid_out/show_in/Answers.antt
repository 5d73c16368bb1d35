use Rattle.pdbdump_cli.proofs.WrittenLemmas.{answered}
use Rattle.pdbdump_cli.proofs.laid_out.show_in.Goals as goal

pub returns : goal.returns
returns g c = answered _ _ _ _ _ c.in_ok-stream.ensures c.show_layouts.ensures
