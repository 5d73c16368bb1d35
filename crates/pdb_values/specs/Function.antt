-- The types of a function's arguments.
use Rattle.std.specs.Prelude.{List}
use Rattle.pdb_base.specs.declared.index.TypeIndex.{TypeIndex}
use Rattle.pdb_values.specs.declared.function.ArgumentList.{ArgumentList}

-- the types of the arguments, in order
abbrev pub argument_types : ArgumentList → List TypeIndex
argument_types list = list.arguments.items
