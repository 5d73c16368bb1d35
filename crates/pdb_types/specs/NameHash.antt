-- A hash of names, by which they are sorted.
use Rattle.std.specs.Prelude.{ℕ, [], ◌∷◌}
use Rattle.std.specs.Hash.DefaultHasher.{finish, initial, write}
use Rattle.pdb_types.specs.declared.name_hash.TheConstants.{DECORATED, SOURCE}
use Rattle.pdb_types.specs.Declaration.{TypeName, source_name, decorated_name, type_name_bytes}

-- the byte that tells the two kinds of names apart
abbrev pub kind_byte : TypeName → ℕ
kind_byte (source_name text) = SOURCE
kind_byte (decorated_name text) = DECORATED

-- the hash of a name: SipHash-1-3 of its bytes and then of that byte
unfoldable pub name_hash : TypeName → ℕ
name_hash name = finish (write (write initial (type_name_bytes name)) (kind_byte name ∷ []))
