-- A table of items: the bytes of its stream, and the header that they begin with.
use Rattle.std.specs.Prelude.{ℕ, ◌≢◌, ◌-◌, ◌^◌, ◌<◌, ◌≤◌, List, [], length, Ok}
use Rattle.pdb_base.specs.Answer.{Answer, ◌>>=◌}
use Rattle.pdb_tpi.specs.declared.header.Header.{Header}
use Rattle.pdb_tpi.specs.Header.{header_of}

-- a table: the bytes of its stream, and the header that they begin with
pub record Table : Type 0 where
  pub bytes : List ℕ
  pub header : Header

-- the table in a stream of these bytes
unfoldable pub table_of : List ℕ → Answer Table
table_of bytes = header_of bytes >>= λ header. Ok (record { bytes = bytes; header = header })

-- how many indexes the header counts
abbrev pub count_in_header : Table → ℕ
count_in_header table = table.header.maximum_index - table.header.minimum_index

-- A table that was read: its header is within its bytes, its indexes are in order and have 32 bits, no
-- item of it has the index of a primitive type, and it is no longer than a stream can be.
pub record IsTable (table : Table) : Type 0 where
  pub within : table.header.header_size ≤ length table.bytes
  pub ordered : table.header.minimum_index ≤ table.header.maximum_index
  pub typed : table.bytes ≢ [] → 4096 ≤ table.header.minimum_index
  pub indexed : table.header.maximum_index < 2 ^ 32
  pub short : length table.bytes < 0xffffffff
