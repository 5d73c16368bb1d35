-- What was written at the exits of calls.
use Rattle.std.specs.Prelude.{IfOk}
use Rattle.std.proofs.Common.{Bool, List, ℕ, [], Result, None, Ok, Err}
use Rattle.pdb_base.specs.Answer.{Answer}
use Rattle.pdb_base.specs.declared.error.Error.{Error}
use Rattle.pdb_msf.specs.{File.stream_of, Header.Head, Source.State}
use Rattle.pdb_output.specs.Output.{Gets, OutputState, Writes}
use Rattle.pdbdump_rows.specs.declared.form.Form.{Form}
use Rattle.pdbdump_rows.specs.Rows.{WritesLines, none}
use Rattle.pdbdump_tables.specs.{Extracted.part_of, Reading.AnswersRead, Reading.Reads}
use Rattle.pdbdump_cli.specs.Listed.{IsAppended, IsExtracted}
use Rattle.pdbdump_cli.specs.declared.command.Extract.{Extract}

-- an answer from what was read
pub answered : {A : Type 0} (file : State) (meant : List ℕ → Answer A) (value : A) (Does : A → Bool → Type 0)
    (result : Result Bool Error) → Reads file meant (Ok value) → IfOk result (Does value)
    → AnswersRead file meant Does result
answered file meant value Does (Ok answer) reads does =
    record { value = value; read = reads; does = does }
answered file meant value Does (Err e) reads does = tt

-- bytes were written
pub appended : (bytes : List ℕ) (old new : OutputState) (result : Result (Unit {0}) Error)
    → Writes bytes old new result → IsAppended old new result
appended bytes old new (Ok done) writes = (bytes, writes)
appended bytes old new (Err e) writes = tt

-- a part of the bytes of a stream
pub extracted : (asked : Extract) (file : State) (head : Head) (number : ℕ) (stream : List ℕ) (old new : OutputState)
    (result : Result (Unit {0}) Error) → Reads file (λ bytes. stream_of bytes head number None) (Ok stream)
    → Writes (part_of asked.skip asked.limit stream) old new result → IsExtracted asked file head old new result
extracted asked file head number stream old new (Ok done) reads writes = (number, stream, reads, writes)
extracted asked file head number stream old new (Err e) reads writes = tt

-- a flush writes no line
pub lines_flushed : (form : Form) (old new : OutputState) → Gets old new [] → WritesLines form old new (Ok tt)
lines_flushed form old new kept =
    record { text = []; holds = record { fronts = []; rows = none }; written = kept }
