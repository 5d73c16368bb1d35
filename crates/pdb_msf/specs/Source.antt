-- What a source of bytes stands for, and what views of it show.
use Rattle.std.specs.Prelude.{◌≡◌, ◌≢◌, ◌⊎◌, ℕ, ◌+◌, ◌<◌, ◌≤◌, Bool, true, IsTrue, nat_lt, if◌then◌else◌, List, length}
use Rattle.std.specs.Prelude.{map, take, drop, slice_index, Option, Some, None, Result, Ok, Err, IfErr}
use Rattle.std.specs.List.{flat_map, list_all, range_with_len}
use Rattle.std.specs.declared.io.Error.{Error}
use Rattle.std.specs.declared.io.ErrorKind.{ErrorKind}
use Rattle.std.specs.declared.io.ErrorKind.TheVariants.{UnexpectedEof, OutOfMemory}
use Rattle.std.specs.IoError.{error_kind}
use Rattle.pdb_base.specs.declared.error.Error.{Error as Refused}
use Rattle.pdb_base.specs.Refusal.{Refusal, refusal_of, io_error}
use Rattle.pdb_base.specs.Answer.{Answer, AnswersUnless}
use Rattle.pdb_msf.specs.declared.source.SourceSlice.{SourceSlice}

-- The state of a source: its bytes, whether these are fixed, how many faults it has met so far, the kind of
-- the last one, if there was one, and whether the source is sound. A sound source fails only at the end of
-- its bytes or for lack of memory.
pub record State : Type 0 where
  pub bytes : List ℕ
  pub is_fixed : Bool
  pub faults : ℕ
  pub last_fault : Option ErrorKind
  pub is_sound : Bool

-- a source of bytes in memory, which fails only at their end or for lack of memory
abbrev pub in_memory : List ℕ → State
in_memory bytes = record { bytes = bytes; is_fixed = true; faults = 0; last_fault = None; is_sound = true }

-- The bytes of the source are fixed: it returns the same ones whenever they are read. Bytes in memory are. Those of an
-- opened file aren't, since another process may write to it.
abbrev pub IsFixed : State → Type 0
IsFixed state = IsTrue state.is_fixed

-- What stays true of a source over a view: the bytes never change, the count of faults never decreases, and a
-- sound source stays sound and meets no fault.
pub record IsKept (old new : State) : Type 0 where
  pub bytes : new.bytes ≡ old.bytes
  pub fixed : new.is_fixed ≡ old.is_fixed
  pub counts : old.faults ≤ new.faults
  pub sound : IsTrue old.is_sound → IsTrue new.is_sound × (new.faults ≡ old.faults)

-- The source met a fault between the two states.
abbrev pub HasFailed : State → State → Type 0
HasFailed old new = old.faults < new.faults

-- the positions of the bytes in a slice
abbrev pub slice_positions : SourceSlice → List ℕ
slice_positions slice = range_with_len slice.offset slice.size

-- the positions of the bytes in slices, slice after slice
abbrev pub positions : List SourceSlice → List ℕ
positions slices = flat_map slice_positions slices

-- the bytes at these positions of a file, or None if one of the positions is past its end
unfoldable pub bytes_at : List ℕ → List ℕ → Option (List ℕ)
bytes_at file at = if list_all (λ place. nat_lt place (length file)) at then Some (map (slice_index file) at) else None

-- The kind is neither that of the end of the bytes nor that of lack of memory.
pub record IsOther (kind : ErrorKind) : Type 0 where
  pub no_end : kind ≢ UnexpectedEof
  pub no_want : kind ≢ OutOfMemory

-- An error of this kind is the fault that the source met last, unless it is the end
-- of the bytes or lack of memory.
abbrev pub IsLastFault : State → ErrorKind → Type 0
IsLastFault state kind = IsOther kind → state.last_fault ≡ Some kind

-- A refusal that is an error of the source has the kind of the fault that the source met last.
abbrev pub TellsKind : State → Refusal → Type 0
TellsKind state (io_error kind) = IsLastFault state kind
TellsKind state refusal = Unit {0}

-- A call keeps the kind of an error that it passes on from the source.
abbrev pub KeepsKind : {X : Type 0} → State → Result X Refused → Type 0
KeepsKind state result = IfErr result (λ e. TellsKind state (refusal_of e))

-- The result of a view: it shows the bytes that are meant; or it fails at the end of the bytes, which is
-- possible only if none are meant; or it fails for lack of memory; or it fails with another fault, which is
-- possible only if `failed` holds.
abbrev pub ShowsBytes : {V : Type 0} → Type 0 → (V → List ℕ) → Result V Error → Option (List ℕ) → Type 0
ShowsBytes failed bytes (Ok view) meant = meant ≡ Some (bytes view)
ShowsBytes failed bytes (Err e) meant =
    ((error_kind e ≡ UnexpectedEof) × (meant ≡ None))
    ⊎ ((error_kind e ≡ OutOfMemory) ⊎ (IsOther (error_kind e) × failed))

-- the bytes that were found, or else the refusal that the file ends too soon
abbrev pub bytes_or_eof : Option (List ℕ) → Answer (List ℕ)
bytes_or_eof (Some bytes) = Ok bytes
bytes_or_eof None = Err (io_error UnexpectedEof)

-- the bytes in a part of a file, or the refusal that the file ends too soon
unfoldable pub file_part : List ℕ → ℕ → ℕ → Answer (List ℕ)
file_part file offset size =
    if nat_lt (length file) (offset + size) then Err (io_error UnexpectedEof) else Ok (take size (drop offset file))

-- A call that reads a source returns what is meant for the source's bytes, as `view` sees it, unless the source failed,
-- if the bytes are fixed. What stays true of a source over a view does.
pub record ReadsSource {X A : Type 0} (old new : State) (view : X → A) (result : Result X Refused)
    (meant : List ℕ → Answer A) : Type 0 where
  pub answer : IsFixed old → AnswersUnless (HasFailed old new) view result (meant old.bytes)
  pub kept : IsKept old new
