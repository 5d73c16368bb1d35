-- What a walk along a table finds of the names of its definitions.
use Rattle.std.specs.Prelude.{◌≡◌, Bool, false, ◌&&◌, not, Result, Ok, Err}
use Rattle.pdb_base.specs.declared.error.Error.{Error}
use Rattle.pdb_tpi.specs.Table.{Table}
use Rattle.pdb_types.specs.declared.definition_walk.DefinitionWalk.{DefinitionWalk}
use Rattle.pdb_types.specs.Numbering.{HasNumbers}

-- whether a type seeks a name that isn't numbered, at which a walk ends
abbrev pub gives_up : DefinitionWalk → Bool
gives_up walk = walk.seeks_source_names && not walk.numbering.has_source_names

-- a fact about the result of a walk, unless the walk ended at such a type
abbrev pub IsUnlessGivenUp : Result DefinitionWalk Error → Type 0 → Type 0
IsUnlessGivenUp (Ok walk) Fact = gives_up walk ≡ false → Fact
IsUnlessGivenUp (Err error) Fact = Fact

-- a walk found the numbers of a table
abbrev pub IsNameWalk : Table → DefinitionWalk → Type 0
IsNameWalk table walk = HasNumbers table walk.numbering walk.numbers.items
