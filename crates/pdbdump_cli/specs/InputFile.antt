-- The bytes of a file, and those at its front.
use Rattle.std.specs.Prelude.{◌≡◌, ℕ, List, [], ◌∷◌, Some}
use Rattle.pdb_msf.specs.Source.{State, IsFixed, bytes_at, in_memory, positions}
use Rattle.pdbdump_cli.specs.declared.input_file.FileBytes.{FileBytes}
use Rattle.pdbdump_cli.specs.declared.input_file.FileBytes.TheVariants.{Memory, Stored}

-- what the bytes of a file are as a source
abbrev pub bytes_state : {S : Type 0} → (S → State) → FileBytes S → State
bytes_state state (Memory bytes) = in_memory bytes.items
bytes_state state (Stored source) = state source

-- These are the bytes at the front of a file, if the bytes of the file are fixed.
abbrev pub IsFront : State → List ℕ → Type 0
IsFront file front =
    IsFixed file → (size : ℕ) × (bytes_at file.bytes (positions (record { offset = 0; size = size } ∷ [])) ≡ Some front)
