-- What `id` and `match` write of a file, and how `id` ends.
use Rattle.std.specs.Prelude.{◌≡◌, ℕ, Bool, false, IfOk, List, Result, Ok}
use Rattle.pdb_base.specs.Answer.{Answer, ◌>>=◌}
use Rattle.pdb_base.specs.declared.error.Error.{Error}
use Rattle.pdb_file.specs.{Format.format_of, Identity.file_identity}
use Rattle.pdb_file.specs.declared.format.Format.TheVariants.{Image}
use Rattle.pdb_file.specs.declared.identity.Identity.{Identity}
use Rattle.pdb_msf.specs.Header.{file_head}
use Rattle.pdb_msf.specs.Source.{State, IsKept}
use Rattle.pdb_output.specs.Output.{GetsUnlessFailed, OutputState, done_of}
use Rattle.pdbdump_rows.specs.declared.form.Form.{Form}
use Rattle.pdbdump_rows.specs.Line.{WritesWhat}
use Rattle.pdbdump_tables.specs.{Identity.IsIdentity, Reading.AnswersRead}
use Rattle.pdbdump_cli.specs.InputFile.{IsFront}
use Rattle.pdbdump_cli.specs.Sentences.{IsFaultTold}
use Rattle.pdbdump_cli.specs.Served.{IsEnded}

-- what identifies a file
unfoldable pub identity_in : List ℕ → Answer Identity
identity_in file = file_head file >>= file_identity file

-- A line about what identifies a file was written.
abbrev pub ShowsLine : Form → OutputState → OutputState → Result Bool Error → Type 0
ShowsLine form old new answer = IfOk answer (λ is. WritesWhat (IsIdentity form) old new (Ok tt))

-- What identifies a file was read, and a line about it was written.
abbrev pub ShowsIdentity : Form → State → OutputState → OutputState → Result Bool Error → Type 0
ShowsIdentity form file old new answer =
    AnswersRead file identity_in (λ identity is. WritesWhat (IsIdentity form) old new (Ok tt)) answer

-- By its front, a file is an image.
abbrev pub IsImage : State → Type 0
IsImage file = (front : List ℕ) × IsFront file front × (format_of front ≡ Image)

-- How the program ends after a file was identified: as behind a listing; or, if the file is not the expected one,
-- it says so behind that, with status 1.
pub data IsConcluded (result : Result Bool Error) (written out' err err' : OutputState) (status : ℕ) : Type 0 where
  ended : (result ≡ Ok false → ⊥) → IsEnded (done_of result) written out' err err' status
      → IsConcluded result written out' err err' status
  differs : (told : OutputState) (ended : ℕ) (message : List ℕ) → result ≡ Ok false
      → IsEnded (Ok tt) written out' err told ended → GetsUnlessFailed told err' message → status ≡ 1
      → IsConcluded result written out' err err' status

-- What `id` does with a file: it writes what identifies it, or, of an image, the database that it names, and ends; or
-- it reports why there is none, or that the file can't be read, and writes no output.
pub data IsIdDone (form : Form) (file : State) (out out' err err' : OutputState) (status : ℕ) : Type 0 where
  identified : (read : State) (written : OutputState) (answer : Result Bool Error) → IsKept file read
      → ShowsIdentity form read out written answer → IsConcluded answer written out' err err' status
      → IsIdDone form file out out' err err' status
  image : (written : OutputState) (answer : Result Bool Error) → IsImage file → ShowsLine form out written answer
      → IsConcluded answer written out' err err' status → IsIdDone form file out out' err err' status
  other : (message : List ℕ) → out' ≡ out → GetsUnlessFailed err err' message → status ≡ 1
      → IsIdDone form file out out' err err' status
  unread : (fault : Error) → out' ≡ out → IsFaultTold fault err err' status
      → IsIdDone form file out out' err err' status
