use Rattle.std.proofs.Common.{◌≡◌, ◌-◌}
use Rattle.pdb_types.specs.Needs.{held_along, held_definition}
use Rattle.pdb_types.proofs.definitions.Definitions.held_definition.Given as goal

abbrev pub invariant-loop : goal.invariant-loop
invariant-loop l = held_definition l.self l.fn.index.0 ≡ held_along (64 - l.counter) l.self l.index.0
