-- Lines were added so far.
use Rattle.pdbdump_rows.specs.Line.{HasText}
use Rattle.pdbdump_rows.specs.Rows.{AreLines}
use Rattle.pdbdump_tables.proofs.members.push_methods.Given as goal

abbrev pub invariant-loop-method : goal.invariant-loop-method
invariant-loop-method l = HasText (AreLines l.form) l.initial.lines.items l.lines.items
