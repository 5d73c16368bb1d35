-- What an output received of the bytes that it was to receive, and whether it failed.
use Rattle.std.specs.Prelude.{◌≡◌, ◌⊎◌, ℕ, Bool, true, List, [], ◌++◌, Option, Result, Ok, Err}
use Rattle.std.specs.Io.KnownBytes.{Appends}
use Rattle.std.specs.declared.io.Error as io
use Rattle.pdb_base.specs.declared.error.Error.{Error}
use Rattle.pdb_base.specs.declared.error.Error.TheVariants.{IoError, OutOfMemory}

-- The bytes that an output holds, where they are known, whether its writer has failed, and whether all
-- that was written to it is flushed.
pub record OutputState : Type 0 where
  pub contents : Option (List ℕ)
  pub has_failed : Bool
  pub is_flushed : Bool

-- The bytes up to some point were received, and `rest` is left of them.
pub record IsReceived (old now : Option (List ℕ)) (all rest : List ℕ) : Type 0 where
  pub done : List ℕ
  pub got : Appends old now done
  pub left : all ≡ done ++ rest

-- A prefix of the bytes was received: none of them, the first of them, or all.
abbrev pub IsPrefix : List ℕ → Option (List ℕ) → Option (List ℕ) → Type 0
IsPrefix all old new = (rest : List ℕ) × IsReceived old new all rest

-- An output received all of the bytes, and did not fail.
pub record Gets (old new : OutputState) (all : List ℕ) : Type 0 where
  pub holds : new.has_failed ≡ old.has_failed
  pub added : Appends old.contents new.contents all

-- An output received the bytes up to some point, and did not fail; `rest` is left of them.
pub record IsWritten (old now : OutputState) (all rest : List ℕ) : Type 0 where
  pub holds : now.has_failed ≡ old.has_failed
  pub received : IsReceived old.contents now.contents all rest

-- The error is that of an output that failed.
abbrev pub IsFailed : OutputState → Error → Type 0
IsFailed new e = (cause : io.Error) × (e ≡ IoError cause) × (new.has_failed ≡ true)

-- Why output may be cut short: the output failed, or memory ran out and the output did not fail.
abbrev pub IsOutputFailure : OutputState → OutputState → Error → Type 0
IsOutputFailure old new e = IsFailed new e ⊎ ((e ≡ OutOfMemory) × (new.has_failed ≡ old.has_failed))

-- An output received a prefix of the bytes, since it failed or memory ran out.
pub record IsCutShort (all : List ℕ) (old new : OutputState) (e : Error) : Type 0 where
  pub cause : IsOutputFailure old new e
  pub prefix : IsPrefix all old.contents new.contents

-- The result of a call that writes: the output received all of the bytes, or was cut short.
abbrev pub Writes : List ℕ → OutputState → OutputState → Result (Unit {0}) Error → Type 0
Writes all old new (Ok done) = Gets old new all
Writes all old new (Err e) = IsCutShort all old new e

-- The result of a flush: all that was written is flushed, or the output failed; no byte is added.
abbrev pub Flushes : OutputState → OutputState → Result (Unit {0}) Error → Type 0
Flushes old new (Ok done) = Gets old new [] × (new.is_flushed ≡ true)
Flushes old new (Err e) = IsCutShort [] old new e

-- An output received all of the bytes; or it failed, and received a prefix of them.
abbrev pub GetsUnlessFailed : OutputState → OutputState → List ℕ → Type 0
GetsUnlessFailed old new all = Gets old new all ⊎ ((new.has_failed ≡ true) × IsPrefix all old.contents new.contents)

-- the result of a call, without the value that it returned
abbrev pub done_of : {A : Type 0} → Result A Error → Result (Unit {0}) Error
done_of (Ok value) = Ok tt
done_of (Err e) = Err e
