use Rattle.pdbdump_types.proofs.lemmas.Shown.{reported}
use Rattle.pdbdump_cli.proofs.incomplete.report_line.Goals as goal

pub returns-in-Ok : goal.returns-in-Ok
returns-in-Ok g c = λ start whole was. reported _ _ _ _ whole was c.report.ensures

pub returns-in-Err : goal.returns-in-Err
returns-in-Err g c = λ start whole was. reported _ _ _ _ whole was c.report-in-Err.ensures
