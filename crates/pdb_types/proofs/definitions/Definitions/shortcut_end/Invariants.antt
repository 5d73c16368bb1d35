use Rattle.pdb_types.specs.Shortcut.{IsAsLarge}
use Rattle.pdb_types.proofs.definitions.Definitions.shortcut_end.Given as goal

abbrev pub invariant-loop : goal.invariant-loop
invariant-loop l = IsAsLarge l.self l.fn.index.0 l.end.0
