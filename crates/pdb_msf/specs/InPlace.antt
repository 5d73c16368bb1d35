-- Bytes of a file that are joined at its front, in its own memory.
use Rattle.std.specs.Prelude.{◌≡◌, ℕ, ◌+◌, ◌<◌, ◌≤◌, Bool, true, ◌&&◌, nat_le, List, [], ◌∷◌, length, slice_index}
use Rattle.pdb_msf.specs.declared.source.SourceSlice.{SourceSlice}

-- whether slices can be joined from a place in a file of this length on, slice after slice: each is within
-- the file, and none begins before the place to which it is moved
abbrev pub can_be_joined : ℕ → ℕ → List SourceSlice → Bool
can_be_joined len front [] = true
can_be_joined len front (slice ∷ slices) =
    nat_le front slice.offset && nat_le (slice.offset + slice.size) len && can_be_joined len (front + slice.size) slices

-- Bytes were moved from one place down to another. The bytes below that place, and those behind the
-- moved ones, are as they were.
pub record IsMoved (from to size : ℕ) (old new : List ℕ) : Type 0 where
  pub len : length new ≡ length old
  pub moved : (i : ℕ) → i < size → slice_index new (to + i) ≡ slice_index old (from + i)
  pub below : (i : ℕ) → i < to → slice_index new i ≡ slice_index old i
  pub behind : (i : ℕ) → to + size ≤ i → slice_index new i ≡ slice_index old i
