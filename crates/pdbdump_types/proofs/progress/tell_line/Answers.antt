use Rattle.pdbdump_types.proofs.lemmas.Shown.{reported}
use Rattle.pdbdump_types.proofs.progress.tell_line.Goals as goal

pub returns-clause-accounted : goal.returns-clause-accounted
returns-clause-accounted g c = λ start was. reported _ _ _ _ _ was c.report.ensures
