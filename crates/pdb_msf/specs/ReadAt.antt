-- Files that are read at any offset.
use Rattle.std.specs.Prelude.{◌≡◌, ℕ, Bool, true, ◌<◌, ◌≤◌, List, length, map, take, slice_index, IsTrue, Option}
use Rattle.std.specs.List.{range_with_len}
use Rattle.std.specs.declared.io.ErrorKind.{ErrorKind}
use Rattle.pdb_msf.specs.Source.{State}

-- What reads of a file find: its bytes, whether these are fixed, and whether the file is sound. No read of a sound file
-- fails, and the file has as many bytes whenever it is read as when its size is asked.
pub record FileContents : Type 0 where
  pub bytes : List ℕ
  pub is_fixed : Bool
  pub is_sound : Bool

-- a file in memory, which is fixed and sound
abbrev pub memory_file : List ℕ → FileContents
memory_file bytes = record { bytes = bytes; is_fixed = true; is_sound = true }

-- the bytes of a file from an offset on
abbrev pub bytes_from : FileContents → ℕ → ℕ → List ℕ
bytes_from file offset count = map (slice_index file.bytes) (range_with_len offset count)

-- A read at an offset found `count` bytes of a file, of which there is room for `room`. Those of a fixed file are the
-- file's. If a sound file has bytes there, and there is room, it found some.
pub record IsRead (file : FileContents) (offset room : ℕ) (read : List ℕ) (count : ℕ) : Type 0 where
  pub within : count ≤ room
  pub bytes : IsTrue file.is_fixed → take count read ≡ bytes_from file offset count
  pub some : IsTrue file.is_sound → offset < length file.bytes → 0 < room → 0 < count

-- a source that reads a file, with its faults so far and the kind of the last one
abbrev pub source_of : FileContents → ℕ → Option ErrorKind → State
source_of file faults last_fault = record {
  bytes = file.bytes;
  is_fixed = file.is_fixed;
  faults = faults;
  last_fault =
      last_fault;
  is_sound = file.is_sound;
}
