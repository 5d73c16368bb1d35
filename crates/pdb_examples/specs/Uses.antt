-- What the uses give of a file's bytes.
use Rattle.std.specs.Prelude.{◌≡◌, ℕ, ◌+◌, ◌<◌, Bool, false, if◌then◌else◌, List, [], ◌∷◌, length, Option, Some, None}
use Rattle.std.specs.Prelude.{IfSome, Ok, Err}
use Rattle.std.specs.List.{filter, filter_map, range_with_len}
use Rattle.std.specs.Option.{option_map, option_map_or}
use Rattle.std.specs.Str.{bytes_eq}
use Rattle.pdb_container.specs.Answer.{Answer, ◌>>=◌}
use Rattle.pdb_container.specs.Header.{Head, file_head}
use Rattle.pdb_container.specs.File.{stream_of}
use Rattle.pdb_container.specs.Conversions.{AddressMapValue, internal_offset_to_rva, rva_to_internal_offset}
use Rattle.pdb_container.specs.Omap.{IsSortedBySource}
use Rattle.pdb_container.specs.SectionPlace.{SectionPlace}
use Rattle.pdb_container.specs.StringTable.{name_of}
use Rattle.pdb_container.specs.Merge.{by_heads}
use Rattle.pdb_container.specs.Span.{covers}
use Rattle.pdb_container.specs.declared.FrameData.{FrameData}
use Rattle.pdb_base.specs.declared.index.TypeIndex.{TypeIndex}
use Rattle.pdb_container.specs.TypeValue.{TypeValue, plain, class}
use Rattle.pdb_container.specs.TypeValue as types
use Rattle.pdb_container.specs.Chain.{LookUp, fields_of}
use Rattle.pdb_container.specs.Record.{type_of}
use Rattle.pdb_container.specs.Finder.{FinderState, find_of}
use Rattle.pdb_container.specs.Steps.{walk, nth_item}
use Rattle.pdb_container.specs.ItemTable.{Table, table_of}
use Rattle.pdb_container.specs.RoleFile.{file_address_map, file_frame_table, file_string_table}

-- ---- streams

-- a stream of a file
abbrev pub stream_in : List ℕ → ℕ → Answer (List ℕ)
stream_in file number = do
  head ← file_head file
  stream_of file head number None

-- a stream's number and size, if it is there
abbrev pub size_if_there : ℕ → Answer (List ℕ) → Option (ℕ × ℕ)
size_if_there number (Ok stream) = Some (number, length stream)
size_if_there number (Err refusal) = None

-- the streams among the first so many numbers, each with its size
unfoldable pub sizes_by_number : ℕ → List ℕ → Head → List (ℕ × ℕ)
sizes_by_number count file head = filter_map (λ number. size_if_there number (stream_of file head number None))
    (range_with_len 0 count)

-- ---- types

-- whether a type has a name, and this one
abbrev pub has_name : List ℕ → Answer TypeValue → Bool
has_name name (Ok value) = option_map_or (λ text. bytes_eq text name) (types.name_of_type value) false
has_name name (Err refusal) = false

-- the indexes of the items of a list that have this name, of which the first has that index
abbrev pub indexes_named : List ℕ → ℕ → List (List ℕ) → List ℕ
indexes_named name index [] = []
indexes_named name index (item ∷ items) =
    if has_name name (type_of index item) then index
    ∷ indexes_named name (index + 1) items else indexes_named name (index + 1) items

-- the indexes of all types of this name that a table has
abbrev pub types_in : List ℕ → Table → List ℕ
types_in name table = indexes_named name table.header.minimum_index (walk table)

-- those of the types of a file
abbrev pub types_of : List ℕ → List ℕ → Answer (List ℕ)
types_of name file = do
  stream ← stream_in file 2
  table ← table_of stream
  Ok (types_in name table)

-- ---- fields

-- A finder of a table finds each item of its walk whose index the header counts.
pub record FindsAll (table : Table) (finder : FinderState) : Type 0 where
  pub same : finder.table ≡ table
  pub found : (n : ℕ) → n < length (walk table) → table.header.minimum_index + n < table.header.maximum_index
      → find_of table finder.known (table.header.minimum_index + n) ≡ nth_item table n

-- the list of the fields of a class
abbrev pub field_list_in : TypeValue → Option TypeIndex
field_list_in (plain (class value)) = value.fields
field_list_in other = None

-- the fields of a list and of those in which it goes on; without a list there is none
abbrev pub fields_at : LookUp → Option TypeIndex → Answer (List TypeValue)
fields_at look (Some list) = fields_of look list.0
fields_at look None = Ok []

-- the fields of the class of an index
abbrev pub fields_of_class : LookUp → ℕ → Answer (List TypeValue)
fields_of_class look index = do
  item ← look index
  value ← type_of index item
  fields_at look (field_list_in value)

-- ---- what streams say by their roles

-- the name at an offset of a file's string table
abbrev pub name_at_offset : List ℕ → ℕ → Answer (List ℕ)
name_at_offset file offset = do
  head ← file_head file
  names ← file_string_table file head
  name_of names offset

-- the address map of a file
abbrev pub file_map : List ℕ → Answer AddressMapValue
file_map file = do
  head ← file_head file
  file_address_map file head

-- both tables of a map go up, as those that tools write do
pub record AreSorted (map : AddressMapValue) : Type 0 where
  pub to_original : IfSome map.transformed_to_original IsSortedBySource
  pub to_transformed : IfSome map.original_to_transformed IsSortedBySource

-- the place in the original image from which an address comes, and where the map moves it
abbrev pub there_and_back : AddressMapValue → ℕ → Option (SectionPlace × Option ℕ)
there_and_back map address = option_map (λ place. (place, internal_offset_to_rva map place))
    (rva_to_internal_offset map address)

-- whether the code of a frame is at an address
abbrev pub is_at : ℕ → FrameData → Bool
is_at address frame = covers (record { start = frame.code_start; size = frame.code_size }) address

-- the frames of a file at an address
abbrev pub frames_of_file : List ℕ → ℕ → Answer (List FrameData)
frames_of_file file address = do
  head ← file_head file
  frames ← file_frame_table file head
  Ok (filter (is_at address) (by_heads frames.old frames.new))
