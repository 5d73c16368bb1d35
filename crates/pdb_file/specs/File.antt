-- What the streams of a file say, by their roles.
use Rattle.std.specs.Prelude.{ℕ, List, [], Option, Some, None, Ok, unwrap_or, codes}
use Rattle.pdb_base.specs.Answer.{Answer, ◌>>=◌}
use Rattle.pdb_base.specs.Index.{stream_number}
use Rattle.pdb_base.specs.declared.index.StreamIndex.{StreamIndex}
use Rattle.pdb_msf.specs.Header.{Head}
use Rattle.pdb_msf.specs.File.{stream_of}
use Rattle.pdb_space.specs.Conversions.{AddressMapValue}
use Rattle.pdb_space.specs.Omap.{OmapValue}
use Rattle.pdb_space.specs.Omap as omap
use Rattle.pdb_space.specs.StringTable.{names_of}
use Rattle.pdb_space.specs.declared.section_header.ImageSectionHeader.{ImageSectionHeader}
use Rattle.pdb_frames.specs.Table.{Frames}
use Rattle.pdb_frames.specs.Table as frames
use Rattle.pdb_tpi.specs.Table.{Table, table_of}
use Rattle.pdb_file.specs.DebugHeader.{extra_streams_of}
use Rattle.pdb_file.specs.Information.{information_of}
use Rattle.pdb_file.specs.StreamNames.{number_named, stream_names_of}
use Rattle.pdb_file.specs.SectionHeaders.{section_headers_of}
use Rattle.pdb_file.specs.declared.debug_header.DBIExtraStreams.{DBIExtraStreams}
use Rattle.pdb_file.specs.declared.information.PDBInformation.{PDBInformation}

-- the numbers of the stream that identifies the file and names streams, of the table of types, of the stream of
-- debug information, and of the table of ids
abbrev pub information_stream : ℕ
information_stream = 1

abbrev pub type_stream : ℕ
type_stream = 2

abbrev pub debug_stream : ℕ
debug_stream = 3

abbrev pub id_stream : ℕ
id_stream = 4

-- ---- one stream

-- the stream with a number, or None if there is no number
abbrev pub stream_numbered : List ℕ → Head → Option ℕ → Answer (Option (List ℕ))
stream_numbered file head None = Ok None
stream_numbered file head (Some number) = stream_of file head number None >>= λ stream. Ok (Some stream)

-- the stream that an index names, or None if it names none
abbrev pub stream_at : List ℕ → Head → StreamIndex → Answer (Option (List ℕ))
stream_at file head index = stream_numbered file head (stream_number index.0)

-- what the bytes of a stream mean, or None if there is no stream
abbrev pub answer_if_present : {A : Type 0} → (List ℕ → Answer A) → Option (List ℕ) → Answer (Option A)
answer_if_present means None = Ok None
answer_if_present means (Some stream) = means stream >>= λ value. Ok (Some value)

-- the information in stream 1 of a file
unfoldable pub file_information : List ℕ → Head → Answer PDBInformation
file_information file head = stream_of file head information_stream None >>= information_of

-- the table of types in stream 2 of a file
unfoldable pub file_types : List ℕ → Head → Answer Table
file_types file head = stream_of file head type_stream None >>= table_of

-- the table of ids in stream 4 of a file
unfoldable pub file_ids : List ℕ → Head → Answer Table
file_ids file head = stream_of file head id_stream None >>= table_of

-- the streams of the roles in stream 3 of a file
unfoldable pub file_roles : List ℕ → Head → Answer DBIExtraStreams
file_roles file head = stream_of file head debug_stream None >>= extra_streams_of

-- the section headers in the stream with a number, or None if there is no number
unfoldable pub sections_numbered : List ℕ → Head → Option ℕ → Answer (Option (List ImageSectionHeader))
sections_numbered file head number = stream_numbered file head number >>= answer_if_present section_headers_of

-- the OMAP table in the stream with a number, or None if there is no number
unfoldable pub omap_numbered : List ℕ → Head → Option ℕ → Answer (Option (List OmapValue))
omap_numbered file head number = stream_numbered file head number >>= answer_if_present omap.omap_table_of

-- ---- several streams

-- An image with the sections `sections`, which was made from one with the sections `original`: OMAP from
-- source leads from the original image to this one, and OMAP to source leads back.
unfoldable pub rearranged_map : List ℕ → Head → DBIExtraStreams → List ImageSectionHeader → List ImageSectionHeader
    → Answer AddressMapValue
rearranged_map file head roles sections original = do
  to_source ← omap_numbered file head (stream_number roles.omap_to_src.0)
  from_source ← omap_numbered file head (stream_number roles.omap_from_src.0)
  Ok (record {
    original_sections = original;
    transformed_sections = Some sections;
    transformed_to_original =
        to_source;
    original_to_transformed = from_source;
  })

-- an image with these sections, which was rearranged if there are original sections
abbrev pub map_of_image : List ℕ → Head → DBIExtraStreams → List ImageSectionHeader → Option (List ImageSectionHeader)
    → Answer AddressMapValue
map_of_image file head roles sections (Some original) = rearranged_map file head roles sections original
map_of_image file head roles sections None =
    Ok (record {
      original_sections = sections;
      transformed_sections = None;
      transformed_to_original =
          None;
      original_to_transformed = None;
    })

-- the address map of a file, made from its section headers, the original ones and both OMAP tables
unfoldable pub file_address_map : List ℕ → Head → Answer AddressMapValue
file_address_map file head = do
  roles ← file_roles file head
  sections ← sections_numbered file head (stream_number roles.section_headers.0)
  original ← sections_numbered file head (stream_number roles.original_section_headers.0)
  map_of_image file head roles (unwrap_or sections []) original

-- the frame table of a file, made from its FPO stream and its frame data
unfoldable pub file_frame_table : List ℕ → Head → Answer Frames
file_frame_table file head = do
  roles ← file_roles file head
  old ← stream_at file head roles.fpo
  new ← stream_at file head roles.framedata
  frames.frame_table_of old new

-- the number of the first stream with a name
unfoldable pub file_number : List ℕ → Head → List ℕ → Answer ℕ
file_number file head name = do
  information ← file_information file head
  streams ← stream_names_of information
  number_named name streams

-- the bytes of the first stream with a name
unfoldable pub file_named_stream : List ℕ → Head → List ℕ → Answer (List ℕ)
file_named_stream file head name = do
  number ← file_number file head name
  stream_of file head number None

-- the string table of a file, which is in the stream named `/names`
unfoldable pub file_string_table : List ℕ → Head → Answer (List ℕ)
file_string_table file head = file_named_stream file head (codes "/names") >>= names_of
