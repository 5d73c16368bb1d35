-- Slices that lie within a file, and sizes that fit in memory.
use Rattle.std.specs.Prelude.{ℕ, ◌-◌, Bool, ◌&&◌, ◌||◌, ◌==◌, ◌^◌, nat_le, nat_lt, if◌then◌else◌, Option, Some, None}
use Rattle.pdb_msf.specs.declared.source.SourceSlice.{SourceSlice}

-- whether a slice lies within a file of this length; a slice of no bytes lies within any file
abbrev pub is_within : ℕ → SourceSlice → Bool
is_within len slice = slice.size == 0 || (nat_le slice.offset len && nat_le slice.size (len - slice.offset))

-- the size if a usize can hold it, and otherwise None
unfoldable pub if_fits_usize : ℕ → Option ℕ
if_fits_usize size = if nat_lt size (2 ^ 64) then Some size else None
