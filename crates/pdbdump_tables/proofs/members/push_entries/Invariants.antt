-- Lines were added so far.
use Rattle.pdbdump_rows.specs.Line.{HasText}
use Rattle.pdbdump_rows.specs.Rows.{AreLines}
use Rattle.pdbdump_tables.proofs.members.push_entries.Given as goal

abbrev pub invariant-loop-field : goal.invariant-loop-field
invariant-loop-field l = HasText (AreLines l.form) l.initial.lines.items l.lines.items
