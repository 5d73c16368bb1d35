-- Files whose streams are read, one that stays open and one that the read consumes.
use Rattle.std.specs.Prelude.{◌≡◌, ℕ, List, Option, Some, None, Err, IsTrue}
use Rattle.std.proofs.Common.{refl}
use Rattle.std.proofs.Math.Nat.{le_refl}
use Rattle.pdb_base.specs.Answer.{Answer}
use Rattle.pdb_base.specs.Refusal.{stream_not_found}
use Rattle.pdb_msf.specs.Source.{State, IsFixed, IsKept}
use Rattle.pdb_msf.specs.File.{Opened, stream_of}

-- A file that stays open keeps its source and its header.
pub record StaysOpen {S : Type 0} (state : S → State) (old new : Opened S) : Type 0 where
  pub source : IsKept (state old.source) (state new.source)
  pub head : new.head ≡ old.head

-- so it does where nothing is read
pub stays_open : {S : Type 0} (state : S → State) (file : Opened S) → StaysOpen state file file
stays_open state file = record {
  source = record {
    bytes = refl;
    fixed = refl;
    counts = le_refl (state file.source).faults;
    sound = λ sound. (sound, refl);
  };
  head = refl;
}

-- the stream of a file that is there once, and none afterwards
abbrev pub stream_once : {S : Type 0} → (S → State) → Option (Opened S) → ℕ → Option ℕ → Answer (List ℕ)
stream_once state None number limit = Err (stream_not_found number)
stream_once state (Some file) number limit = stream_of (state file.source).bytes file.head number limit

-- The bytes of the file, if it is there, are fixed.
abbrev pub WasFixed : {S : Type 0} → (S → State) → Option (Opened S) → Type 0
WasFixed state None = Unit {0}
WasFixed state (Some file) = IsFixed (state file.source)

-- The source of the file, if it is there, is sound.
abbrev pub WasSound : {S : Type 0} → (S → State) → Option (Opened S) → Type 0
WasSound state None = Unit {0}
WasSound state (Some file) = IsTrue (state file.source).is_sound
