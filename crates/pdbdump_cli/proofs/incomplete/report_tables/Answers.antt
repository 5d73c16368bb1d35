use Rattle.std.proofs.Common.{refl}
use Rattle.pdbdump_cli.proofs.incomplete.report_tables.Goals as goal

pub returns : goal.returns
returns g c = c.report_counts.ensures.told _ (c.report_counts-has_types.ensures.told _ refl)
