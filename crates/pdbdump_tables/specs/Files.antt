-- What is read of a file's tables, whose streams are given by number or found by role or by name.
use Rattle.std.specs.Prelude.{ℕ, List, [], ◌∷◌, codes, Option, Some, None, Result, Ok, Err}
use Rattle.pdb_base.specs.Answer.{Answer, ◌>>=◌}
use Rattle.pdb_base.specs.Index.{stream_number}
use Rattle.pdb_base.specs.Refusal.{refusal_of}
use Rattle.pdb_base.specs.declared.error.Error.{Error}
use Rattle.pdb_msf.specs.File.{stream_of}
use Rattle.pdb_msf.specs.Header.{Head}
use Rattle.pdb_msf.specs.Source.{State}
use Rattle.pdb_space.specs.StringTable.{names_of}
use Rattle.pdb_frames.specs.Table.{Frames, frame_table_of}
use Rattle.pdb_file.specs.File.{file_roles, file_string_table, stream_numbered}
use Rattle.pdb_file.specs.declared.debug_header.DBIExtraStreams.{DBIExtraStreams}
use Rattle.pdb_output.specs.Output.{OutputState}
use Rattle.pdbdump_rows.specs.Row.{ShownRow, text}
use Rattle.pdbdump_rows.specs.declared.form.Form.{Form}
use Rattle.pdbdump_tables.specs.Listing.{IsListed, Listing, followed_by, refusal_alone, whole, with_rows_before}
use Rattle.pdbdump_tables.specs.Reading.{Reads, WritesRead}
use Rattle.pdbdump_tables.specs.Tables.{omap_listing}

-- the stream of section headers: that of the given number, or that with their role
unfoldable pub section_stream : List ℕ → Head → Option ℕ → Answer (Option (List ℕ))
section_stream file head (Some number) = stream_numbered file head (Some number)
section_stream file head None =
    file_roles file head >>= λ roles. stream_numbered file head (stream_number roles.section_headers.0)

-- the listing of a stream; if there is none, an empty listing
abbrev pub stream_listing : (List ℕ → Listing) → Option (List ℕ) → Listing
stream_listing listing (Some stream) = listing stream
stream_listing listing None = whole []

-- the string table in the stream that is given, or in the one named `/names`
unfoldable pub names_in : List ℕ → Head → Option ℕ → Answer (List ℕ)
names_in file head (Some number) = stream_of file head number None >>= names_of
names_in file head None = file_string_table file head

-- the frames of two streams, each of which may be absent
unfoldable pub frame_table_in : List ℕ → Head → Option ℕ → Option ℕ → Answer Frames
frame_table_in file head old new = stream_numbered file head old >>= λ o. stream_numbered file head new
    >>= λ n. frame_table_of o n

-- ---- OMAP tables

-- what the row before a table begins with: the table's role
abbrev pub role_shown : List ℕ → ShownRow
role_shown role = (codes "role", text role) ∷ []

-- the listing of what was read of the stream with a role, behind a line with that role; an empty listing if there is no
-- such stream
abbrev pub role_listing : List ℕ → Result (Option (List ℕ)) Error → Listing
role_listing role (Ok None) = whole []
role_listing role (Ok (Some stream)) = with_rows_before (role_shown role ∷ []) (omap_listing stream)
role_listing role (Err fault) = with_rows_before (role_shown role ∷ []) (refusal_alone (refusal_of fault))

-- The OMAP records that move addresses of the image as it is loaded to those of the original image were listed, and
-- then those that move addresses the other way.
pub record AreBothListed (form : Form) (file : State) (head : Head) (roles : DBIExtraStreams) (out out' : OutputState)
    (result : Result (Unit {0}) Error) : Type 0 where
  pub to_source : Result (Option (List ℕ)) Error
  pub from_source : Result (Option (List ℕ)) Error
  pub to_read : Reads file (λ bytes. stream_numbered bytes head (stream_number roles.omap_to_src.0)) to_source
  pub from_read : Reads file (λ bytes. stream_numbered bytes head (stream_number roles.omap_from_src.0)) from_source
  pub listed : IsListed form (followed_by (role_listing (codes "omap_to_src") to_source)
      (role_listing (codes "omap_from_src") from_source)) out out' result

-- The OMAP records of a file were listed: of the stream that is given, or else of the streams with both roles.
abbrev pub IsOmapListed : Form → State → Head → Option ℕ → OutputState → OutputState → Result (Unit {0}) Error → Type 0
IsOmapListed form file head (Some n) =
    WritesRead (Reads file (λ bytes. stream_of bytes head n None)) (λ stream. IsListed form (omap_listing stream))
IsOmapListed form file head None =
    WritesRead (Reads file (λ bytes. file_roles bytes head)) (AreBothListed form file head)
