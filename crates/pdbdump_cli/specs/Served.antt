-- What the program does with the file in an input, and how it ends.
use Rattle.std.specs.Prelude.{◌≡◌, ℕ, Bool, true, false, Result, Ok, Err}
use Rattle.std.specs.Result.{result_and}
use Rattle.std.specs.declared.io.ErrorKind.TheVariants as kinds
use Rattle.std.specs.IoError.{error_kind}
use Rattle.pdb_base.specs.declared.error.Error.{Error}
use Rattle.pdb_base.specs.declared.error.Error.TheVariants.{IoError}
use Rattle.pdb_msf.specs.Source.{State}
use Rattle.pdb_output.specs.Output.{OutputState, Flushes, done_of}
use Rattle.pdbdump_cli.specs.Sentences.{IsFaultTold}
use Rattle.pdbdump_cli.specs.declared.input_file.InputFile.{InputFile}

-- the reader of the output has closed it
abbrev pub IsClosed : Error → Type 0
IsClosed (IoError cause) = error_kind cause ≡ kinds.BrokenPipe
IsClosed other = ⊥

-- status 0, and nothing is written to standard error
pub record IsQuiet (old new : OutputState) (status : ℕ) : Type 0 where
  pub is_status : status ≡ 0
  pub kept : new ≡ old

-- How the program ends: quietly if all was listed, or if the reader of the output has closed it; and else
-- it reports the fault, with status 1.
abbrev pub EndsProgram : Result (Unit {0}) Error → OutputState → OutputState → ℕ → Type 0
EndsProgram (Ok done) old new status = IsQuiet old new status
EndsProgram (Err fault) old new status =
    (IsClosed fault → IsQuiet old new status) × ((IsClosed fault → ⊥) → IsFaultTold fault old new status)

-- The output was flushed behind a listing, and the program ended as the first fault of both says, if there
-- is one.
pub record IsEnded (listed : Result (Unit {0}) Error) (written out' err err' : OutputState) (status : ℕ) : Type 0 where
  pub flushed : Result (Unit {0}) Error
  pub flushes : Flushes written out' flushed
  pub ends : EndsProgram (result_and listed flushed) err err' status

-- the status behind an answer: 1 if it is no, and else that of the end of the program
abbrev pub status_of : Result Bool Error → ℕ → ℕ
status_of (Ok false) ended = 1
status_of (Ok true) ended = ended
status_of (Err fault) ended = ended

-- The program ended behind what answers yes or no, as behind a listing, but with status 1 for a no.
pub record IsEndedAs (answer : Result Bool Error) (written out' err err' : OutputState) (status : ℕ) : Type 0 where
  pub ended : ℕ
  pub ends : IsEnded (done_of answer) written out' err err' ended
  pub is_status : status ≡ status_of answer ended

-- what a call that answers yes or no did with the output and the error channel
abbrev pub Answering : Type 1
Answering = OutputState → OutputState → OutputState → OutputState → Result Bool Error → Type 0

-- An answer was given so, the output was flushed, and the program ended as the answer says.
pub record EndsAnswer (Does : Answering) (out out' err err' : OutputState) (status : ℕ) : Type 0 where
  pub written : OutputState
  pub told : OutputState
  pub answer : Result Bool Error
  pub does : Does out written err told answer
  pub ends : IsEndedAs answer written out' told err' status

-- What the program did with a file: what is meant, or it reported why the file can't be opened, and wrote no output.
abbrev pub IsFileServed : {S : Type 0} → (S → State) → (State → Type 0) → Result (InputFile S) Error → OutputState
    → OutputState → OutputState → OutputState → ℕ → Type 0
IsFileServed state does (Ok file) out out' err err' status = does (state file.source)
IsFileServed state does (Err fault) out out' err err' status = (out' ≡ out) × IsFaultTold fault err err' status
