-- The header of a table of items (the layout of `HDR` in Microsoft's tpi.h): fields of fixed sizes. The
-- items stand behind it, from offset `header_size` on.
use Rattle.std.specs.Prelude.{ℕ, pos, nat_le, List, [], ◌∷◌, length, Ok, codes}
use Rattle.std.specs.Int.{w32}
use Rattle.pdb_base.specs.Refusal.{unexpected_eof, invalid_type_information_header}
use Rattle.pdb_base.specs.Answer.{Answer, ◌>>=◌, ok_if}
use Rattle.pdb_base.specs.Reading.{number_at, signed_at}
use Rattle.pdb_tpi.specs.declared.header.Header.{Header}
use Rattle.pdb_tpi.specs.declared.header.Slice.{Slice}

-- a slice of no bytes at offset 0
abbrev pub empty_slice : Slice
empty_slice = record { offset = pos 0; size = 0 }

-- the header of a table without bytes, in which every field is 0
abbrev pub empty_header : Header
empty_header = record {
  version = 0;
  header_size = 0;
  minimum_index = 0;
  maximum_index = 0;
  gprec_size = 0;
  tpi_hash_stream = 0;
  tpi_hash_pad_stream = 0;
  hash_key_size = 0;
  hash_bucket_size = 0;
  hash_values = empty_slice;
  ti_off = empty_slice;
  hash_adj = empty_slice;
}

-- reads a slice of the hash stream: a signed offset and a size
unfoldable pub slice_of : List ℕ → Answer (Slice × List ℕ)
slice_of bytes = do
  offset ← signed_at w32 4 bytes
  size ← number_at 4 offset.1
  Ok (record { offset = offset.0; size = size.0 }, size.1)

-- reads the fields in order, and returns them and the bytes behind them
unfoldable pub header_fields : List ℕ → Answer (Header × List ℕ)
header_fields bytes = do
  version ← number_at 4 bytes
  header_size ← number_at 4 version.1
  minimum_index ← number_at 4 header_size.1
  maximum_index ← number_at 4 minimum_index.1
  gprec_size ← number_at 4 maximum_index.1
  tpi_hash_stream ← number_at 2 gprec_size.1
  tpi_hash_pad_stream ← number_at 2 tpi_hash_stream.1
  hash_key_size ← number_at 4 tpi_hash_pad_stream.1
  hash_bucket_size ← number_at 4 hash_key_size.1
  hash_values ← slice_of hash_bucket_size.1
  ti_off ← slice_of hash_values.1
  hash_adj ← slice_of ti_off.1
  Ok (
    record {
      version = version.0;
      header_size = header_size.0;
      minimum_index = minimum_index.0;
      maximum_index = maximum_index.0;
      gprec_size = gprec_size.0;
      tpi_hash_stream = tpi_hash_stream.0;
      tpi_hash_pad_stream = tpi_hash_pad_stream.0;
      hash_key_size = hash_key_size.0;
      hash_bucket_size = hash_bucket_size.0;
      hash_values = hash_values.0;
      ti_off = ti_off.0;
      hash_adj = hash_adj.0;
    },
    hash_adj.1,
  )

-- Checks the header of a table of `len` bytes: its size must be from 56 to 1024 and at most `len`, its
-- minimum index at least 4096, and its maximum index not below the minimum.
unfoldable pub check_header : Header → ℕ → Answer (Unit {0})
check_header header len = do
  least ← ok_if (nat_le 56 header.header_size)
      (invalid_type_information_header (codes "header size is impossibly small"))
  most ← ok_if (nat_le header.header_size 1024)
      (invalid_type_information_header (codes "header size is unreasonably large"))
  whole ← ok_if (nat_le header.header_size len) unexpected_eof
  typed ← ok_if (nat_le 4096 header.minimum_index)
      (invalid_type_information_header (codes "minimum type index is < 4096"))
  ok_if (nat_le header.minimum_index header.maximum_index)
      (invalid_type_information_header (codes "maximum type index is < minimum type index"))

-- reads and checks the header at the front of a table's bytes
unfoldable pub read_header_of : List ℕ → Answer Header
read_header_of bytes = do
  fields ← header_fields bytes
  good ← check_header fields.0 (length bytes)
  Ok fields.0

-- the header of a table; a table without bytes has the empty header
unfoldable pub header_of : List ℕ → Answer Header
header_of [] = Ok empty_header
header_of (byte ∷ bytes) = read_header_of (byte ∷ bytes)
