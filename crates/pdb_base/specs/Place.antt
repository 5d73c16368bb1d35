-- A buffer is a slice and a position in it. What is left of it are the bytes from that position on.
use Rattle.std.specs.Prelude.{◌≡◌, ℕ, ◌*◌, ◌≤◌, min, nat_le, if◌then◌else◌, List, length, take, drop, Ok, Err}
use Rattle.std.specs.Int.{div_ceil}
use Rattle.pdb_base.specs.Refusal.{unexpected_eof}
use Rattle.pdb_base.specs.Answer.{Answer}

-- a slice, and the position in it from which on it is still to be read
pub record Place : Type 0 where
  pub slice : List ℕ
  pub pos : ℕ

-- the bytes that are still to be read
abbrev pub left : Place → List ℕ
left place = drop place.pos place.slice

-- The slice is the same, and the new position lies within it.
pub record StaysWithin (old new : Place) : Type 0 where
  pub slice : new.slice ≡ old.slice
  pub pos : new.pos ≤ length new.slice

-- the first position from here on that is a multiple of the alignment, if the slice reaches it
unfoldable pub align_to : ℕ → Place → Answer Place
align_to alignment place =
    let next = div_ceil place.pos alignment * alignment in
    if nat_le next (length place.slice) then Ok (record place { pos = next }) else Err unexpected_eof

-- the first `len` bytes of the slice, if it has them; a position after them moves to their end
unfoldable pub truncate_at : ℕ → Place → Answer Place
truncate_at len place =
    if nat_le len (length place.slice) then Ok
    (record { slice = take len place.slice; pos = min place.pos len }) else Err unexpected_eof
