-- Lines were written so far.
use Rattle.pdbdump_rows.specs.Sink.{AddsLines}
use Rattle.pdbdump_tables.proofs.places.list_places.Given as goal

abbrev pub invariant-loop-offset : goal.invariant-loop-offset
invariant-loop-offset g l = AddsLines l.initial.rows l.rows
