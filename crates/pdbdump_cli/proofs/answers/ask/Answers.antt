use Rattle.pdbdump_cli.proofs.WrittenLemmas.{answered}
use Rattle.pdbdump_cli.proofs.answers.ask.Goals as goal

pub returns : goal.returns
returns g c = answered _ _ c.in_ok-file.file.head _ _ c.in_ok-file.ensures.head c.answer_all.ensures
