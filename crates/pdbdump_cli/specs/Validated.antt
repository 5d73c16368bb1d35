-- What `validate` does with a file, and how the program ends.
use Rattle.std.specs.Prelude.{◌≡◌, ◌↔◌, ⊤, ℕ, Bool, true, false, IsTrue, List, [], Result}
use Rattle.pdb_base.specs.declared.error.Error.{Error}
use Rattle.pdb_msf.specs.Source.{State, IsFixed}
use Rattle.pdb_output.specs.Output.{OutputState, Writes}
use Rattle.pdbdump_rows.specs.declared.form.Form.{Form}
use Rattle.pdbdump_rows.specs.declared.form.Form.TheVariants as forms
use Rattle.pdbdump_rows.specs.Rows.{AreLines}
use Rattle.pdb_validation.specs.declared.mismatch.Extent.{Extent}
use Rattle.pdb_validation.specs.Finding.{FaultPlace, error_count, warning_count}
use Rattle.pdb_validation.specs.IsWhole.{IsWhole}
use Rattle.pdb_validation.specs.Whole.{faults_of}
use Rattle.pdbdump_cli.specs.declared.command.ValidateOptions.{ValidateOptions}
use Rattle.pdbdump_cli.specs.Sentences.{IsFaultTold}
use Rattle.pdbdump_cli.specs.Served.{IsEnded}

-- There is no error among the faults of a file, and no warning either where that counts too.
pub record HasPassed (is_strict : Bool) (faults : List FaultPlace) : Type 0 where
  pub no_error : error_count faults ≡ 0
  pub no_warning : IsTrue is_strict → warning_count faults ≡ 0

-- The status is that of the end of the program for a file that has passed, and 1 for one that hasn't.
pub record IsJudged (is_strict : Bool) (faults : List FaultPlace) (ended status : ℕ) : Type 0 where
  pub passed : HasPassed is_strict faults → status ≡ ended
  pub other : ¬ HasPassed is_strict faults → status ≡ 1

-- in JSON a text is lines of rows
abbrev pub AreRowsIn : Form → List ℕ → Type 0
AreRowsIn forms.Text text = ⊤
AreRowsIn forms.Json text = AreLines forms.Json text

-- what is written of a file: nothing, if only the status is wanted, and in JSON lines of rows
abbrev pub AreFindingLines : Bool → Form → List ℕ → Type 0
AreFindingLines true form text = text ≡ []
AreFindingLines false form text = AreRowsIn form text

-- It was written, or cut short.
pub record AreFindingsWritten (is_quiet : Bool) (form : Form) (old new : OutputState) (result : Result (Unit {0}) Error)
    : Type 0 where
  pub text : List ℕ
  pub lines : AreFindingLines is_quiet form text
  pub writes : Writes text old new result

-- What was found in a file was written, or cut short; the output was flushed, and the program ended with a status
-- that tells whether the file has passed.
pub record IsConcluded (options : ValidateOptions) (form : Form) (faults : List FaultPlace)
    (out out' err err' : OutputState) (status : ℕ) : Type 0 where
  pub written : OutputState
  pub result : Result (Unit {0}) Error
  pub writes : AreFindingsWritten options.is_quiet form out written result
  pub ended : ℕ
  pub ends : IsEnded result written out' err err' ended
  pub judged : IsJudged options.is_strict faults ended status

-- These are the faults of a file, which has no error exactly if it is whole.
pub record AreFaultsOf (extent : Extent) (file : List ℕ) (faults : List FaultPlace) : Type 0 where
  pub are : faults ≡ faults_of extent file
  pub whole : (error_count faults ≡ 0) ↔ IsWhole file

-- What `validate` does with a file: faults are looked for, which are those of its bytes if these are fixed, and the
-- program ends as above; or the file can't be read, or an allocation fails, which is reported, and no output is
-- written.
pub data IsValidatedIn (options : ValidateOptions) (form : Form) (file : State) (out out' err err' : OutputState)
    (status : ℕ) : Type 0 where
  concluded : (faults : List FaultPlace) → (IsFixed file → AreFaultsOf options.extent file.bytes faults)
      → IsConcluded options form faults out out' err err' status
      → IsValidatedIn options form file out out' err err' status
  unread : (fault : Error) → out' ≡ out → IsFaultTold fault err err' status
      → IsValidatedIn options form file out out' err err' status
