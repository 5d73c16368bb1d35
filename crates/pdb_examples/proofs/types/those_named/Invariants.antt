use Rattle.std.proofs.Common.{◌≡◌, ◌≤◌, ◌++◌, map}
use Rattle.pdb_container.specs.Steps.{items_left}
use Rattle.pdb_examples.specs.Uses.{types_in}
use Rattle.pdb_examples.proofs.TypeLemmas.{still_named}
use Rattle.pdb_examples.proofs.types.those_named.Given as goal

abbrev pub invariant-loop-found : goal.invariant-loop-found
invariant-loop-found l = record {
  least : l.items.table.header.minimum_index ≤ l.items.index;
  so_far : types_in l.name l.fn.types ≡ map (λ index. index.0) l.found.items ++ still_named l.name l.items;
}

abbrev pub decreases-loop-found : goal.decreases-loop-found
decreases-loop-found l = items_left l.items
