-- What a command reads and writes of a file.
use Rattle.std.specs.Prelude.{◌≡◌, List, ℕ, None, Option, Some, OnOk, Result, Ok, Err, unwrap_or}
use Rattle.pdb_base.specs.declared.error.Error.{Error}
use Rattle.pdb_file.specs.File.{file_frame_table, id_stream, type_stream}
use Rattle.pdb_msf.specs.File.{stream_of}
use Rattle.pdb_msf.specs.Header.{Head, file_head}
use Rattle.pdb_msf.specs.Source.{State, IsFixed, IsKept}
use Rattle.pdb_output.specs.Output.{Gets, OutputState}
use Rattle.pdbdump_rows.specs.declared.form.Form.{Form}
use Rattle.pdbdump_rows.specs.declared.form.Form.TheVariants.{Text}
use Rattle.pdbdump_rows.specs.Rows.{WritesLines}
use Rattle.pdbdump_tables.specs.{Extracted.part_of, Given.map_in}
use Rattle.pdbdump_tables.specs.Files.{IsOmapListed, frame_table_in, names_in, section_stream, stream_listing}
use Rattle.pdbdump_tables.specs.Listed.{IsShown, IsTableListed}
use Rattle.pdbdump_tables.specs.Listing.{IsListed, ListsLines, whole}
use Rattle.pdbdump_tables.specs.Reading.{Reads, WritesRead}
use Rattle.pdbdump_tables.specs.Tables.{all_names, frames_listing, name_rows, sections_listing}
use Rattle.pdbdump_cli.specs.declared.command.Command.{Command}
use Rattle.pdbdump_cli.specs.declared.command.Extract.{Extract}
use Rattle.pdbdump_cli.specs.declared.command.Command.TheVariants as commands

-- the items of a table, or the one of an index
abbrev pub AreItems : Form → Option ℕ → List ℕ → OutputState → OutputState → Result (Unit {0}) Error → Type 0
AreItems form None stream = IsTableListed form stream
AreItems form (Some index) stream = IsShown form index

-- Some bytes were written.
abbrev pub IsAppended : OutputState → OutputState → Result (Unit {0}) Error → Type 0
IsAppended old new result = OnOk result ((bytes : List ℕ) × Gets old new bytes)

-- A part of the bytes of a stream of a file was written.
abbrev pub IsExtracted : Extract → State → Head → OutputState → OutputState → Result (Unit {0}) Error → Type 0
IsExtracted asked file head old new result = OnOk result ((number : ℕ) × (stream : List ℕ)
    × (IsFixed file → stream_of file.bytes head number None ≡ Ok stream)
    × Gets old new (part_of asked.skip asked.limit stream))

-- the table in a stream is listed, as the bytes of the stream determine
abbrev pub IsListedFrom : (List ℕ → OutputState → OutputState → Result (Unit {0}) Error → Type 0) → State → Head → ℕ
    → OutputState → OutputState → Result (Unit {0}) Error → Type 0
IsListedFrom IsListed file head n = WritesRead (Reads file (λ bytes. stream_of bytes head n None)) IsListed

-- what a command does with a file with this header
abbrev pub DoesIn : Form → Command → State → Head → OutputState → OutputState → Result (Unit {0}) Error → Type 0
DoesIn form commands.Summary file head = WritesLines form
DoesIn form (commands.Types stream index) file head =
    IsListedFrom (AreItems form index) file head (unwrap_or stream type_stream)
DoesIn form (commands.Ids stream index) file head =
    IsListedFrom (AreItems form index) file head (unwrap_or stream id_stream)
DoesIn form (commands.Names stream) file head = WritesRead (Reads file (λ bytes. names_in bytes head stream))
    (λ names. IsListed form (whole (name_rows (all_names names))))
DoesIn form (commands.Sections stream) file head = WritesRead (Reads file (λ bytes. section_stream bytes head stream))
    (λ stream. IsListed form (stream_listing sections_listing stream))
DoesIn form (commands.Omap stream) file head = IsOmapListed form file head stream
DoesIn form commands.Frames file head = WritesRead (Reads file (λ bytes. file_frame_table bytes head))
    (λ frames. IsListed form (frames_listing frames))
DoesIn form (commands.FramesIn old new) file head = WritesRead (Reads file (λ bytes. frame_table_in bytes head old new))
    (λ frames. IsListed form (frames_listing frames))
DoesIn form commands.BreakpadFrames file head = ListsLines Text
DoesIn form (commands.Map addresses streams) file head = WritesRead (Reads file (λ bytes. map_in bytes head streams))
    (λ map. WritesLines form)
DoesIn form (commands.Extract asked) file head = IsExtracted asked file head
DoesIn form (commands.Dump asked) file head = IsAppended

-- What a command does with a file; or the header is refused, or can't be read, and nothing is written.
pub data Does (form : Form) (command : Command) (file : State) (out out' : OutputState)
    (result : Result (Unit {0}) Error) : Type 0 where
  listed : (head : Head) (opened : State) → IsKept file opened → Reads file file_head (Ok head)
      → DoesIn form command opened head out out' result
      → Does form command file out out' result
  refused : (fault : Error) → result ≡ Err fault → Reads {A = Head} file file_head (Err fault) → out' ≡ out
      → Does form command file out out' result
