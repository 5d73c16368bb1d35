-- The debug header of stream 3: a list of stream numbers, two bytes each, of which the first eleven
-- have a role (`DBGTYPE` in Microsoft's dbi.h).
use Rattle.std.specs.Prelude.{ℕ, ◌+◌, ◌*◌, ◌%◌, ◌==◌, ◌||◌, Bool, nat_le, if◌then◌else◌, List, [], ◌∷◌, length, sum, Ok}
use Rattle.pdb_base.specs.Refusal.{unexpected_eof}
use Rattle.pdb_base.specs.Answer.{Answer, ◌>>=◌, ok_if}
use Rattle.pdb_base.specs.Index.{no_stream}
use Rattle.pdb_base.specs.Reading.{front_at, number_in}
use Rattle.pdb_base.specs.declared.index.StreamIndex.{StreamIndex}
use Rattle.pdb_file.specs.DbiHeader.{header_size, dbi_header_of}
use Rattle.pdb_file.specs.declared.dbi_header.DBIHeader.{DBIHeader}
use Rattle.pdb_file.specs.declared.debug_header.DBIExtraStreams.{DBIExtraStreams}

-- the sizes of the parts before the debug header, in this order: the header, modules, section contributions,
-- the section map, file info, the type server map, names for edit and continue
abbrev pub sizes_before : DBIHeader → List ℕ
sizes_before header =
    header_size ∷ header.module_list_size ∷ header.section_contribution_size ∷ header.section_map_size
    ∷ header.file_info_size ∷ header.type_server_map_size ∷ header.ec_substream_size ∷ []

-- the debug header of a stream that begins with a header
unfoldable pub debug_header_behind : List ℕ → Answer (List ℕ)
debug_header_behind stream = do
  header ← dbi_header_of stream
  before ← front_at (sum (sizes_before header)) stream
  list ← front_at header.debug_header_size before.1
  Ok list.0

-- the debug header in stream 3, which is empty if the stream is
abbrev pub debug_header_of : List ℕ → Answer (List ℕ)
debug_header_of [] = Ok []
debug_header_of (byte ∷ bytes) = debug_header_behind (byte ∷ bytes)

-- the stream at an index of the list, or no stream if the list ends before that number does
abbrev pub stream_listed_at : ℕ → List ℕ → StreamIndex
stream_listed_at place list =
    record { 0 = if nat_le (2 * place + 2) (length list) then number_in 2 (2 * place) list else no_stream }

-- the streams of the eleven roles, each read at its index in the list
unfoldable pub roles_in : List ℕ → DBIExtraStreams
roles_in list = record {
  fpo = stream_listed_at 0 list;
  exception = stream_listed_at 1 list;
  fixup = stream_listed_at 2 list;
  omap_to_src = stream_listed_at 3 list;
  omap_from_src = stream_listed_at 4 list;
  section_headers = stream_listed_at 5 list;
  token_rid_map = stream_listed_at 6 list;
  xdata = stream_listed_at 7 list;
  pdata = stream_listed_at 8 list;
  framedata = stream_listed_at 9 list;
  original_section_headers = stream_listed_at 10 list;
}

-- whether none of the first eleven numbers is cut in half
abbrev pub is_whole : List ℕ → Bool
is_whole list = nat_le 22 (length list) || length list % 2 == 0

-- the streams of the roles in a list
unfoldable pub extra_streams : List ℕ → Answer DBIExtraStreams
extra_streams list = do
  whole ← ok_if (is_whole list) unexpected_eof
  Ok (roles_in list)

-- the streams of the roles in stream 3
unfoldable pub extra_streams_of : List ℕ → Answer DBIExtraStreams
extra_streams_of stream = debug_header_of stream >>= extra_streams
