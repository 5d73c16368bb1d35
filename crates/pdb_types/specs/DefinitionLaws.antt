-- What the definition of a name is, in other words.
use Rattle.std.specs.Prelude.{◌≡◌, ℕ, ◌<◌, ◌≤◌, true, Option, Some, None}
use Rattle.pdb_tpi.specs.Table.{Table}
use Rattle.pdb_types.specs.Declaration.{TypeName}
use Rattle.pdb_types.specs.Definition.{defines}
use Rattle.pdb_types.specs.TypeAt.{type_at}

-- The header of a table counts an index, and its type is a definition of a name.
pub record IsDefinition (table : Table) (name : TypeName) (index : ℕ) : Type 0 where
  pub least : table.header.minimum_index ≤ index
  pub most : index < table.header.maximum_index
  pub defines : defines name (type_at table index) ≡ true

-- An index is the least one whose type is a definition of a name; or none is, and there is none.
abbrev pub IsFirstDefinition : Table → TypeName → Option ℕ → Type 0
IsFirstDefinition table name (Some index) = IsDefinition table name index
    × ((other : ℕ) → IsDefinition table name other → index ≤ other)
IsFirstDefinition table name None = (other : ℕ) → ¬ IsDefinition table name other
