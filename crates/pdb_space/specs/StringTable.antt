-- The string table, which the stream `/names` holds (the layout of `NMT` in Microsoft's nmt.h):
-- a u32 signature, a u32 version of the hash of names, a u32 size of the names, and the names,
-- each of which ends with a NUL.
use Rattle.std.specs.Prelude.{ℕ, Bool, ◌==◌, ◌||◌, List, Ok, drop, codes}
use Rattle.pdb_base.specs.Refusal.{unimplemented_feature}
use Rattle.pdb_base.specs.Answer.{Answer, ◌>>=◌, ok_if}
use Rattle.pdb_base.specs.Reading.{front_at, number_at, text_at}
use Rattle.pdb_base.specs.Text.{lossy}
use Rattle.pdb_space.specs.declared.string_table.Header.{Header}

-- the number at the front of every string table
abbrev pub names_signature : ℕ
names_signature = 0xeffeeffe

-- whether a version of the hash is known, which 1 and 2 are
abbrev pub is_known_version : ℕ → Bool
is_known_version version = version == 1 || version == 2

-- the three numbers of a header, and the bytes after them
unfoldable pub header_at : List ℕ → Answer (Header × List ℕ)
header_at bytes = do
  signature ← number_at 4 bytes
  hash_version ← number_at 4 signature.1
  names_size ← number_at 4 hash_version.1
  Ok (record { signature = signature.0; hash_version = hash_version.0; names_size = names_size.0 }, names_size.1)

-- the names of the string table in a stream; the four faults are checked in this order
unfoldable pub names_of : List ℕ → Answer (List ℕ)
names_of stream = do
  header ← header_at stream
  signed ← ok_if (header.0.signature == names_signature)
      (unimplemented_feature (codes "invalid string table signature"))
  names ← front_at header.0.names_size header.1
  known ← ok_if (is_known_version header.0.hash_version)
      (unimplemented_feature (codes "unknown string table hash version"))
  Ok names.0

-- the name at an offset: the bytes from there up to the first NUL among the names
unfoldable pub name_of : List ℕ → ℕ → Answer (List ℕ)
name_of names offset = do
  text ← text_at (drop offset names)
  Ok text.0

-- the name at an offset as text
unfoldable pub lossy_name_of : List ℕ → ℕ → Answer (List ℕ)
lossy_name_of names offset = do
  name ← name_of names offset
  Ok (lossy name)
