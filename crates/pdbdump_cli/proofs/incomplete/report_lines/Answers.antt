use Rattle.std.proofs.Common.{refl, true}
use Rattle.pdbdump_cli.proofs.incomplete.report_lines.Goals as goal

pub returns-in_default-clause-told : goal.returns-in_default-clause-told
returns-in_default-clause-told g c = c.report_line.ensures _ true refl
