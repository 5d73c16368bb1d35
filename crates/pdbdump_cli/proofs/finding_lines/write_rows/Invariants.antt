-- Lines were written so far.
use Rattle.pdbdump_rows.specs.Sink.{AddsLines}
use Rattle.pdbdump_cli.proofs.finding_lines.write_rows.Given as goal

abbrev pub invariant-loop-finding : goal.invariant-loop-finding
invariant-loop-finding g l = AddsLines l.initial.rows l.rows
