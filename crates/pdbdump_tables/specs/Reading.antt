-- What is read of a file, and what is written of that.
use Rattle.std.specs.Prelude.{◌≡◌, IsTrue, Bool, IfOk, List, ℕ, Result, Ok, Err}
use Rattle.pdb_base.specs.Answer.{Answer, AnswersUnless}
use Rattle.pdb_base.specs.declared.error.Error.{Error}
use Rattle.pdb_msf.specs.File.{Opened}
use Rattle.pdb_msf.specs.Source.{State, IsFixed, IsKept}
use Rattle.pdb_output.specs.Output.{OutputState}

-- What is read of a source is what is meant for its bytes, if these are fixed; or the source itself fails, unless it is
-- sound.
abbrev pub Reads : {A : Type 0} → State → (List ℕ → Answer A) → Result A Error → Type 0
Reads state meant read =
    IsFixed state → AnswersUnless (¬ IsTrue state.is_sound) (λ value. value) read (meant state.bytes)

-- What was read was written, as `Writes` says; or it can't be read, and nothing was written.
pub data WritesRead {A : Type 0} (IsRead : Result A Error → Type 0)
    (Writes : A → OutputState → OutputState → Result (Unit {0}) Error → Type 0) (out out' : OutputState)
    (result : Result (Unit {0}) Error) : Type 0 where
  written : (value : A) → IsRead (Ok value) → Writes value out out' result → WritesRead IsRead Writes out out' result
  unread : (fault : Error) → result ≡ Err fault → IsRead (Err fault) → out' ≡ out
      → WritesRead IsRead Writes out out' result

-- This can be read of a file, and what it says of an answer holds.
pub record IsReadAnswer {A : Type 0} (file : State) (meant : List ℕ → Answer A) (Does : A → Bool → Type 0)
    (answer : Bool) : Type 0 where
  pub value : A
  pub read : Reads file meant (Ok value)
  pub does : Does value answer

-- A call answers yes or no only so.
abbrev pub AnswersRead : {A : Type 0} → State → (List ℕ → Answer A) → (A → Bool → Type 0) → Result Bool Error → Type 0
AnswersRead file meant Does result = IfOk result (IsReadAnswer file meant Does)

-- An open file keeps its bytes and its header.
pub record IsKeptOpen {S : Type 0} (state : S → State) (old new : Opened S) : Type 0 where
  pub source : IsKept (state old.source) (state new.source)
  pub head : new.head ≡ old.head
