-- Lines were written so far.
use Rattle.pdbdump_rows.specs.Sink.{AddsLines}
use Rattle.pdbdump_cli.proofs.answer.write_names.Given as goal

abbrev pub invariant-loop-name : goal.invariant-loop-name
invariant-loop-name g l = AddsLines l.fn.rows l.rows
