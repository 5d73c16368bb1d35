-- The header of stream 3, which holds the debug information (DBI): `NewDBIHdr` in Microsoft's dbi.h.
use Rattle.std.specs.Prelude.{ℕ, ◌==◌, nat_le, List, length, Ok, codes}
use Rattle.pdb_base.specs.Refusal.{unexpected_eof, unimplemented_feature}
use Rattle.pdb_base.specs.Answer.{Answer, ◌>>=◌, ok_if}
use Rattle.pdb_base.specs.Reading.{number_at, number_in, word_at}
use Rattle.pdb_file.specs.declared.dbi_header.DBIHeader.{DBIHeader}

-- the signature at the front of every header except those of the oldest format
abbrev pub dbi_signature : ℕ
dbi_signature = 0xffffffff

-- the size of a header in bytes
abbrev pub header_size : ℕ
header_size = 64

-- the header with its fields, each read at its offset
unfoldable pub dbi_header : List ℕ → DBIHeader
dbi_header bytes = record {
  signature = word_at 0 bytes;
  version = word_at 4 bytes;
  age = word_at 8 bytes;
  gs_symbols_stream = record { 0 = number_in 2 12 bytes };
  internal_version = number_in 2 14 bytes;
  ps_symbols_stream = record { 0 = number_in 2 16 bytes };
  pdb_dll_build_version = number_in 2 18 bytes;
  symbol_records_stream = record { 0 = number_in 2 20 bytes };
  pdb_dll_rbld_version = number_in 2 22 bytes;
  module_list_size = word_at 24 bytes;
  section_contribution_size = word_at 28 bytes;
  section_map_size = word_at 32 bytes;
  file_info_size = word_at 36 bytes;
  type_server_map_size = word_at 40 bytes;
  mfc_type_server_index = word_at 44 bytes;
  debug_header_size = word_at 48 bytes;
  ec_substream_size = word_at 52 bytes;
  flags = number_in 2 56 bytes;
  machine_type = number_in 2 58 bytes;
  reserved = word_at 60 bytes;
}

-- the header at the front of a stream; the three faults are checked in this order
unfoldable pub dbi_header_of : List ℕ → Answer DBIHeader
dbi_header_of stream = do
  first ← number_at 4 stream
  signed ← ok_if (first.0 == dbi_signature) (unimplemented_feature (codes "ancient DBI header"))
  whole ← ok_if (nat_le header_size (length stream)) unexpected_eof
  Ok (dbi_header stream)
