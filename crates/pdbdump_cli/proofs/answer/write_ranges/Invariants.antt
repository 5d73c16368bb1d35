-- Lines were written so far.
use Rattle.pdbdump_rows.specs.Sink.{AddsLines}
use Rattle.pdbdump_cli.proofs.answer.write_ranges.Given as goal

abbrev pub invariant-loop-range : goal.invariant-loop-range
invariant-loop-range g l = AddsLines l.fn.rows l.rows
