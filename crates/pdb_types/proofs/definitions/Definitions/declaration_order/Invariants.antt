use Rattle.std.specs.Bool.{nat_eq}
use Rattle.std.specs.HashMap.{get}
use Rattle.pdb_types.specs.Needs.{numbers, readable_needs}
use Rattle.pdb_types.proofs.OrderLemmas.{IsSearch}
use Rattle.pdb_types.proofs.definitions.Definitions.declaration_order.Given as goal

abbrev pub invariant-loop : goal.invariant-loop
invariant-loop l = IsSearch (readable_needs l.self) (numbers l.roots) l.search.steps.items
    (numbers l.search.order.items) (get nat_eq l.search.marks)
