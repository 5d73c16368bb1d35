-- A free page map, of which one page is kept.
use Rattle.std.specs.Prelude.{◌≡◌, ℕ, ◌+◌, ◌*◌, ◌/◌, List, length, take, drop}
use Rattle.pdb_validation.specs.Pages.{active_map}
use Rattle.pdb_validation.specs.declared.free_map.FreeMap.{FreeMap}

-- the byte of the file with which the page of a map begins that has the bit of a page
abbrev pub map_start : ℕ → ℕ → ℕ → ℕ
map_start page_size map page = (map + page / 8 / page_size * page_size) * page_size

-- The map is the active one of a file, and of a page of that file it has the bytes that are there.
pub record IsMapOf (file : List ℕ) (free : FreeMap) : Type 0 where
  pub active : free.map ≡ active_map file
  pub size : free.size ≡ length file
  pub bytes : free.bytes ≡ take free.page_size (drop free.start file)
