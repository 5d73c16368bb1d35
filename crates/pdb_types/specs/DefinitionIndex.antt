-- What definitions keep besides their table.
use Rattle.std.specs.Prelude.{◌≡◌, Ok}
use Rattle.pdb_tpi.specs.Table.{Table}
use Rattle.pdb_types.specs.Definition.{whole_table}
use Rattle.pdb_types.specs.declared.definition_index.DefinitionIndex.{DefinitionIndex}
use Rattle.pdb_types.specs.declared.definition_index.KeptIndex.{KeptIndex}
use Rattle.pdb_types.specs.declared.definition_index.KeptIndex.TheVariants.{Own, Lent}
use Rattle.pdb_types.specs.Numbering.{HasNumbers}
use Rattle.pdb_types.specs.Shortcut.{AreShortcuts}

-- an index, independent of who keeps it
abbrev pub index_kept : KeptIndex → DefinitionIndex
index_kept (Own index) = index
index_kept (Lent index) = index.now

-- an index is that of a table
pub record IsIndexOf (table : Table) (index : DefinitionIndex) : Type 0 where
  pub numbers : HasNumbers table index.numbering index.numbers.items
  pub shortcuts : AreShortcuts table index.shortcuts.items

-- an index is that of a table whose items end where its bytes do
pub record IsWholeIndexOf (table : Table) (index : DefinitionIndex) : Type 0 where
  pub whole : whole_table table ≡ Ok table
  pub of_table : IsIndexOf table index
