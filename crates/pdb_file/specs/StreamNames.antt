-- The named streams, which stream 1 lists after its header: the names, and a table that leads from the offset
-- of a name to a stream. The table is stored as a hash table of the PDB format: a u32 count, a u32 capacity,
-- two sets of bits, each as a u32 number of words and the words, and the entries.
use Rattle.std.specs.Prelude.{ℕ, ◌+◌, ◌*◌, ◌/◌, ◌==◌, if◌then◌else◌, min, List, length, map, find, Option, Some, None}
use Rattle.std.specs.Prelude.{Ok, Err}
use Rattle.std.specs.List.{range_with_len}
use Rattle.std.specs.Str.{bytes_eq}
use Rattle.pdb_base.specs.Refusal.{stream_name_not_found}
use Rattle.pdb_base.specs.Answer.{Answer, ◌>>=◌, values_of_all}
use Rattle.pdb_base.specs.Index.{no_stream}
use Rattle.pdb_base.specs.Reading.{front_at, number_at, word_at}
use Rattle.pdb_space.specs.StringTable.{name_of}
use Rattle.pdb_file.specs.declared.information.PDBInformation.{PDBInformation}
use Rattle.pdb_file.specs.declared.stream_names.NameMap.{NameMap}
use Rattle.pdb_file.specs.declared.stream_names.StreamName.{StreamName}

-- a stream and its name
pub record Named : Type 0 where
  pub name : List ℕ
  pub stream : ℕ

abbrev pub named_view : StreamName → Named
named_view named = record { name = named.name.0.now; stream = named.stream_id.0 }

-- the bytes after a set of bits, which is a u32 number of words and as many u32 words
unfoldable pub behind_set : List ℕ → Answer (List ℕ)
behind_set bytes = do
  count ← number_at 4 bytes
  words ← front_at (4 * count.0) count.1
  Ok words.1

-- the entries of the table, eight bytes each, and the bytes after them
unfoldable pub entries_at : List ℕ → Answer (List ℕ × List ℕ)
entries_at bytes = do
  count ← number_at 4 bytes
  capacity ← number_at 4 count.1
  present ← behind_set capacity.1
  deleted ← behind_set present
  front_at (8 * count.0) deleted

-- the names, the entries of the table, and the bytes after it
pub record Map : Type 0 where
  pub names : List ℕ
  pub entries : List ℕ
  pub behind : List ℕ

abbrev pub map_view : NameMap → Map
map_view table = record { names = table.names.now; entries = table.entries.now; behind = table.behind.now }

unfoldable pub map_of : PDBInformation → Answer Map
map_of information = do
  before ← front_at information.names_offset information.stream
  names ← front_at information.names_size before.1
  entries ← entries_at names.1
  Ok (record { names = names.0; entries = entries.0; behind = entries.1 })

-- The stream and the name of an entry, which is the u32 offset of the name and the u32 number of the stream.
-- A number of 0xffff or more names no stream.
unfoldable pub named_at : Map → ℕ → Answer Named
named_at table place = do
  name ← name_of table.names (word_at (8 * place) table.entries)
  Ok (record { name = name; stream = min (word_at (8 * place + 4) table.entries) no_stream })

-- all named streams of a table, in the order of their entries
unfoldable pub named_in : Map → Answer (List Named)
named_in table = values_of_all (map (named_at table) (range_with_len 0 (length table.entries / 8)))

unfoldable pub stream_names_of : PDBInformation → Answer (List Named)
stream_names_of information = map_of information >>= named_in

-- the number of the entry that was found; it is refused if there is none or if it names no stream
abbrev pub number_found : Option Named → Answer ℕ
number_found None = Err stream_name_not_found
number_found (Some named) = if named.stream == no_stream then Err stream_name_not_found else Ok named.stream

-- the number of the first stream with a name
unfoldable pub number_named : List ℕ → List Named → Answer ℕ
number_named name streams = number_found (find (λ named. bytes_eq named.name name) streams)
