-- The steps by which definitions are put into an order.
use Rattle.std.specs.Prelude.{◌==◌, if◌then◌else◌, List, [], ◌∷◌, ◌++◌, map}
use Rattle.pdb_base.specs.declared.index.TypeIndex.{TypeIndex}
use Rattle.pdb_types.specs.declared.declaration_order.Step.{Step}
use Rattle.pdb_types.specs.declared.declaration_order.Step.TheVariants.{Enter, Leave}

-- the steps that enter definitions
abbrev pub entered : List TypeIndex → List Step
entered indexes = map (λ index. Enter index) indexes

-- steps, with those that enter definitions behind them
abbrev pub pushed : List Step → List TypeIndex → List Step
pushed steps indexes = steps ++ entered indexes

-- the definitions that are open
abbrev pub leaves : List Step → List TypeIndex
leaves [] = []
leaves (Enter index ∷ steps) = leaves steps
leaves (Leave index ∷ steps) = index ∷ leaves steps

-- the definitions from one on
abbrev pub open_from : TypeIndex → List TypeIndex → List TypeIndex
open_from first [] = []
open_from first (index ∷ indexes) = if index.0 == first.0 then index ∷ indexes else open_from first indexes

-- the definitions that are open from one on
abbrev pub cycle_from : List Step → TypeIndex → List TypeIndex
cycle_from steps first = open_from first (leaves steps)
