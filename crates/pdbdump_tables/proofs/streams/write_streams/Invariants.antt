-- Lines were written so far.
use Rattle.pdbdump_rows.specs.Sink.{AddsLines}
use Rattle.pdbdump_tables.proofs.streams.write_streams.Given as goal

abbrev pub invariant-loop-number : goal.invariant-loop-number
invariant-loop-number g l = AddsLines l.fn.rows l.rows
