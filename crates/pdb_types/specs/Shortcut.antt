-- Types that are as large as others.
use Rattle.std.specs.Prelude.{◌≡◌, ℕ, ◌≤◌, List}
use Rattle.std.specs.List.{All}
use Rattle.pdb_tpi.specs.Table.{Table}
use Rattle.pdb_types.specs.declared.shortcut.Shortcut.{Shortcut}
use Rattle.pdb_types.specs.Size.{size_of}

-- A type has the size of another one, which has no higher index; or the sizes of both fail with the same error.
pub record IsAsLarge (table : Table) (index other : ℕ) : Type 0 where
  pub low : other ≤ index
  pub same : size_of table index ≡ size_of table other

-- each shortcut leads from a type to one that is as large
abbrev pub AreShortcuts : Table → List Shortcut → Type 0
AreShortcuts table shortcuts = All (λ shortcut. IsAsLarge table shortcut.index.0 shortcut.end.0) shortcuts
