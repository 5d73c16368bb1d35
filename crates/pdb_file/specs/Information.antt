-- The header of stream 1, which identifies the file: a u32 version, a u32 signature, a u32 age, sixteen bytes
-- of a GUID, and a u32 size of the names after it.
use Rattle.std.specs.Prelude.{ℕ, nat_le, List, length, take, drop, Ok}
use Rattle.pdb_base.specs.Refusal.{unexpected_eof}
use Rattle.pdb_base.specs.Answer.{Answer, ◌>>=◌, ok_if}
use Rattle.pdb_base.specs.Reading.{word_at}
use Rattle.pdb_file.specs.declared.information.PDBInformation.{PDBInformation}

-- the information with its fields, each read at its offset
unfoldable pub information : List ℕ → PDBInformation
information stream = record {
  version = word_at 0 stream;
  signature = word_at 4 stream;
  age = word_at 8 stream;
  guid = take 16 (drop 12 stream);
  names_size = word_at 28 stream;
  names_offset = 32;
  stream = stream;
}

unfoldable pub information_of : List ℕ → Answer PDBInformation
information_of stream = do
  whole ← ok_if (nat_le 32 (length stream)) unexpected_eof
  Ok (information stream)
