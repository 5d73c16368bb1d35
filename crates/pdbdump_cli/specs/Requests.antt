-- What the program does for a request, and how it ends.
use Rattle.std.specs.Prelude.{◌≡◌, ℕ, Bool, List, Result, None, Ok}
use Rattle.pdb_base.specs.Answer.{Answer, ◌>>=◌}
use Rattle.pdb_base.specs.declared.error.Error.{Error}
use Rattle.pdb_file.specs.File.{type_stream}
use Rattle.pdb_msf.specs.{File.stream_of, Header.file_head, Source.State}
use Rattle.pdb_output.specs.Output.{OutputState, done_of}
use Rattle.pdbdump_rows.specs.declared.form.Form.{Form}
use Rattle.pdbdump_rows.specs.Rows.{WritesLines}
use Rattle.pdbdump_tables.specs.Listing.{ListsLines}
use Rattle.pdbdump_tables.specs.Reading.{AnswersRead}
use Rattle.pdbdump_types.specs.Shown.{ShowsTypes}
use Rattle.pdbdump_cli.specs.Identified.{IsIdDone, ShowsIdentity}
use Rattle.pdbdump_cli.specs.Listed.{Does}
use Rattle.pdbdump_cli.specs.Told.{EndsTold, IsSearchTold}
use Rattle.pdbdump_cli.specs.Served.{Answering, EndsAnswer}
use Rattle.pdbdump_cli.specs.Validated.{IsValidatedIn}
use Rattle.pdbdump_cli.specs.declared.command.Command.{Command}
use Rattle.pdbdump_cli.specs.declared.command.Request.{Request}
use Rattle.pdbdump_cli.specs.declared.command.Request.TheVariants as requests

-- the bytes of the stream of a file that has this number, and those of the stream of types
abbrev pub stream_bytes : ℕ → List ℕ → Answer (List ℕ)
stream_bytes number file = file_head file >>= λ head. stream_of file head number None

abbrev pub type_bytes : List ℕ → Answer (List ℕ)
type_bytes file = stream_bytes type_stream file

-- What a command lists of a file was written, or cut short, and what the listing lacks was reported.
pub record DoesCommand (form : Form) (command : Command) (file : State) (out out' err err' : OutputState)
    (answer : Result Bool Error) : Type 0 where
  pub does : Does form command file out out' (done_of answer)
  pub told : EndsTold command err err' answer

-- Some records of the table in a stream were listed, or cut short, and what wasn't found was reported.
pub record AreSelected (form : Form) (number : ℕ) (file : State) (out out' err err' : OutputState)
    (answer : Result Bool Error) : Type 0 where
  pub lists : ListsLines form out out' (done_of answer)
  pub accounts : AnswersRead file (stream_bytes number) (λ stream. IsSearchTold stream err err') answer

-- The types of a file were shown, and what can't be shown was reported.
abbrev pub AreTypesShown : State → Answering
AreTypesShown file out out' err err' answer = AnswersRead file type_bytes (λ stream. ShowsTypes stream err err') answer

-- What bytes belong to was written, or cut short.
abbrev pub AreLocated : Form → Answering
AreLocated form out out' err err' answer = ListsLines form out out' (done_of answer)

-- Whether a database is the one that an image names was written.
pub record IsMatched (form : Form) (file : State) (out out' err err' : OutputState) (answer : Result Bool Error)
    : Type 0 where
  pub shows : ShowsIdentity form file out out' answer
  pub silent : err' ≡ err

-- Questions were answered, each by lines.
pub record AreAnswered (form : Form) (file : State) (out out' err err' : OutputState) (answer : Result Bool Error)
    : Type 0 where
  pub lines : AnswersRead file file_head (λ head all. WritesLines form out out' (Ok tt)) answer
  pub silent : err' ≡ err

-- what is done for a request with a file
abbrev pub IsDone : Form → Request → State → OutputState → OutputState → OutputState → OutputState → ℕ → Type 0
IsDone form (requests.List command) file = EndsAnswer (DoesCommand form command file)
IsDone form (requests.Select asked) file = EndsAnswer (AreSelected form asked.number file)
IsDone form (requests.Identify asked) file = IsIdDone form file
IsDone form (requests.Validate options path) file = IsValidatedIn options form file
IsDone form (requests.Layout asked) file = EndsAnswer (AreTypesShown file)
IsDone form (requests.Declare asked) file = EndsAnswer (AreTypesShown file)
IsDone form (requests.Match asked) file = EndsAnswer (IsMatched form file)
IsDone form (requests.Locate offsets) file = EndsAnswer (AreLocated form)
