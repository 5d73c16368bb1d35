-- What the program reads from its channels, what it writes to each, and how it ends.
use Rattle.std.specs.Prelude.{◌≡◌, ◌≢◌, ◌⊎◌, true, List, map, drop, ℕ, Option, Result, Ok, Err, IfSome, ⊤, String}
use Rattle.std.specs.Prelude.{string_bytes}
use Rattle.std.specs.Global.{Global}
use Rattle.std.specs.declared.vec.IntoIter.{IntoIter}
use Rattle.std.specs.Vec.Iter.{into_iter_items}
use Rattle.std.specs.declared.io.Error as io
use Rattle.std.specs.declared.io.ErrorKind.TheVariants as kinds
use Rattle.std.specs.IoError.{error_kind}
use Rattle.pdb_base.specs.declared.error.Error.{Error}
use Rattle.pdb_base.specs.declared.error.Error.TheVariants.{IoError, OutOfMemory}
use Rattle.pdb_container.specs.Refusal.{refusal_of}
use Rattle.pdb_output.specs.Output.{OutputState, Gets, GetsUnlessFailed, IsFailed, IsPrefix}
use Rattle.pdb_cli.specs.declared.outcome.Outcome.{Outcome}
use Rattle.pdb_cli.specs.Printed.{IsLineOf, IsUsage, Shows, question_of}

-- why an input isn't read: a read failed for a reason other than an interruption, or the input did not
-- end, or memory ran out
abbrev pub IsUnread : Error → Type 0
IsUnread (IoError fault) = error_kind fault ≢ kinds.Interrupted
IsUnread OutOfMemory = ⊤
IsUnread other = ⊥

-- why the program has nothing to show: a channel failed, or memory ran out
abbrev pub IsFault : Error → Type 0
IsFault (IoError fault) = ⊤
IsFault OutOfMemory = ⊤
IsFault other = ⊥

-- the words that the program is called with
abbrev pub Arguments : Type 0
Arguments = IntoIter (String Global) Global

-- the arguments behind the program's name
abbrev pub words_behind : Arguments → List (List ℕ)
words_behind arguments = map string_bytes (drop 1 (into_iter_items arguments))

-- What the words ask is shown of the file in an input; if the bytes of the input are known, these are the
-- file.
pub record IsShownOf (words : List (List ℕ)) (had : Option (List ℕ)) (outcome : Outcome) : Type 0 where
  pub file : List ℕ
  pub whole : IfSome had (λ bytes. file ≡ bytes)
  pub shows : Shows (question_of words file) outcome

-- What is shown for the arguments that the system gives: what they ask, or the usage if the system gives
-- none because one of them isn't UTF-8.
abbrev pub IsShownOfCall : Result Arguments io.Error → Option (List ℕ) → Outcome → Type 0
IsShownOfCall (Ok arguments) had outcome = IsShownOf (words_behind arguments) had outcome
IsShownOfCall (Err fault) had outcome = (error_kind fault ≡ kinds.InvalidData) × IsUsage outcome

-- Each part of an outcome was written to its output, standard output was flushed, and the outcome's status
-- is the program's. Standard error received its part, or failed.
pub record IsOutcomeWritten (outcome : Outcome) (out out' err err' : OutputState) (status : ℕ) : Type 0 where
  pub is_status : status ≡ outcome.status
  pub printed : Gets out out' outcome.out.items
  pub flushed : out'.is_flushed ≡ true
  pub told : GetsUnlessFailed err err' outcome.err.items

-- Standard output failed with this fault, and received a prefix of its part of an outcome.
abbrev pub IsOutputCut : Outcome → OutputState → OutputState → Error → Type 0
IsOutputCut outcome out out' fault = IsFailed out' fault × IsPrefix outcome.out.items out.contents out'.contents

-- A fault, or that memory ran out for the text of the fault, is reported on standard error, with
-- status 1; or standard error failed.
pub record IsFaultReported (fault : Error) (err err' : OutputState) (status : ℕ) : Type 0 where
  pub is_status : status ≡ 1
  pub reason : Error
  pub is_reason : (reason ≡ fault) ⊎ (reason ≡ OutOfMemory)
  pub line : List ℕ
  pub is_line : IsLineOf (refusal_of reason) line
  pub told : GetsUnlessFailed err err' line

-- What the program did: it showed the answer, each part on its output; or it reported why there was
-- nothing to show, and wrote no output; or it reported that standard output failed, which received a
-- prefix of what was to be shown.
pub data IsServed (call : Result Arguments io.Error) (had : Option (List ℕ)) (out out' err err' : OutputState)
    (status : ℕ) : Type 0 where
  shown : (outcome : Outcome) → IsShownOfCall call had outcome → IsOutcomeWritten outcome out out' err err' status
      → IsServed call had out out' err err' status
  refused : (fault : Error) → IsFault fault → out' ≡ out → IsFaultReported fault err err' status
      → IsServed call had out out' err err' status
  cut : (outcome : Outcome) (fault : Error) → IsShownOfCall call had outcome → IsOutputCut outcome out out' fault
      → IsFaultReported fault err err' status → IsServed call had out out' err err' status
