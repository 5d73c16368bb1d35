-- The size of a type in bytes.
use Rattle.std.specs.Prelude.{◌≡◌, ℕ, zero, suc, nat_lt, if◌then◌else◌, Option, Some, None, Ok, unwrap_or}
use Rattle.pdb_base.specs.Answer.{Answer, ◌>>=◌}
use Rattle.pdb_tpi.specs.Table.{Table}
use Rattle.pdb_types.specs.declared.size_source.SizeSource.{SizeSource}
use Rattle.pdb_types.specs.declared.size_source.SizeSource.TheVariants.{Stated, SameAs, Unknown}
use Rattle.pdb_types.specs.Definition.{definition_of}
use Rattle.pdb_types.specs.SizeSource.{size_source}
use Rattle.pdb_types.specs.TypeAt.{type_at}

-- the answers that sizes of types are
abbrev pub Sizes : Type 0
Sizes = ℕ → Answer (Option ℕ)

-- what says the size of the type of an index: its record, or the record of its definition if it has one
unfoldable pub source_of_size : Table → ℕ → Answer SizeSource
source_of_size table index = do
  definition ← definition_of table index
  value ← type_at table (unwrap_or definition index)
  Ok (size_source value)

-- the size that this says, if `sizes` says those of types with a lower index
abbrev pub size_from : Sizes → ℕ → SizeSource → Answer (Option ℕ)
size_from sizes index (Stated size) = Ok (Some size)
size_from sizes index (SameAs other) = if nat_lt other.0 index then sizes other.0 else Ok None
size_from sizes index Unknown = Ok None

-- the size of the type of an index, if `sizes` says those of types with a lower index
abbrev pub one_size : Table → Sizes → ℕ → Answer (Option ℕ)
one_size table sizes index = source_of_size table index >>= size_from sizes index

-- Sizes are those of the types of a table: each is the size that the record says, of the type or of its
-- definition, or it is the size of the type that the record names, if that has a lower index.
abbrev pub AreSizes : Table → Sizes → Type 0
AreSizes table sizes = (index : ℕ) → sizes index ≡ one_size table sizes index

-- the size of a type, along at most as many types as the first argument
unfoldable pub size_along : ℕ → Table → ℕ → Answer (Option ℕ)
size_along zero table index = Ok None
size_along (suc most) table index = one_size table (size_along most table) index

-- the size of the type of an index, if there is one
unfoldable pub size_of : Table → ℕ → Answer (Option ℕ)
size_of table index = size_along (suc index) table index
