use Rattle.pdbdump_cli.proofs.WrittenLemmas.{appended}
use Rattle.pdbdump_cli.proofs.extracted.dump_opened.Goals as goal

pub returns : goal.returns
returns g c = appended c.write_dump.ensures.text _ _ _ c.write_dump.ensures.written
