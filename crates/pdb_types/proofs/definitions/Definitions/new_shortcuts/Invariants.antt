use Rattle.pdb_tpi.specs.Steps.{items_left}
use Rattle.pdb_types.specs.Shortcut.{AreShortcuts}
use Rattle.pdb_types.proofs.definitions.Definitions.new_shortcuts.Given as goal

abbrev pub invariant-loop-item : goal.invariant-loop-item
invariant-loop-item l = AreShortcuts l.self l.shortcuts.items

abbrev pub decreases-loop-item : goal.decreases-loop-item
decreases-loop-item l = items_left l.items
