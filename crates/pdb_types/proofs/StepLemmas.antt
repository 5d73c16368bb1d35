-- The steps by which definitions are put into an order.
use Rattle.std.proofs.Common.{List, [], ◌∷◌, ◌++◌}
use Rattle.pdb_base.specs.declared.index.TypeIndex.{TypeIndex}
use Rattle.pdb_types.specs.declared.declaration_order.Step.{Step}
use Rattle.pdb_types.specs.Steps.{cycle_from, leaves}

-- the definitions that are open from one on, where those steps are left, and these definitions were found before
abbrev pub cycle_behind : List TypeIndex → List Step → TypeIndex → List TypeIndex
cycle_behind [] steps first = cycle_from steps first
cycle_behind (index ∷ indexes) steps first = (index ∷ indexes) ++ leaves steps
