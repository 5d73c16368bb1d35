-- What a list of pages stands for: slices of a file, in which consecutive pages are joined.
use Rattle.std.specs.Prelude.{ℕ, ◌+◌, ◌-◌, ◌*◌, ◌==◌, nat_le, if◌then◌else◌, Bool, List, [], ◌∷◌, fold}
use Rattle.pdb_msf.specs.declared.source.SourceSlice.{SourceSlice}
use Rattle.pdb_msf.specs.Source.{slice_positions}

-- the size of a page, the slices into which the pages are joined, and whether these were truncated
pub record SliceList : Type 0 where
  pub page_size : ℕ
  pub slices : List SourceSlice
  pub is_truncated : Bool

-- the slice that is one page
abbrev pub page_slice : ℕ → ℕ → SourceSlice
page_slice page_size page = record { offset = page * page_size; size = page_size }

-- the positions of the bytes of one page
abbrev pub page_positions : ℕ → ℕ → List ℕ
page_positions page_size page = slice_positions (page_slice page_size page)

-- two slices, or one if the second begins exactly at the end of the first
unfoldable pub join_slices : SourceSlice → SourceSlice → List SourceSlice
join_slices slice next =
    if slice.offset + slice.size == next.offset then record slice { size = slice.size + next.size } ∷ [] else slice
    ∷ next ∷ []

-- the slices with one more after them, joined to the last one if it begins exactly at the end of that
unfoldable pub with_slice : List SourceSlice → SourceSlice → List SourceSlice
with_slice [] more = more ∷ []
with_slice (slice ∷ []) more = join_slices slice more
with_slice (slice ∷ (next ∷ slices)) more = slice ∷ with_slice (next ∷ slices) more

-- the slices of pages that are added one after another, starting from none
abbrev pub slices_of : ℕ → List ℕ → List SourceSlice
slices_of page_size pages = fold (λ slices page. with_slice slices (page_slice page_size page)) [] pages

-- the first n bytes of slices: the slices that fit in them, and the front of the next one if bytes are left
unfoldable pub first_bytes_of : ℕ → List SourceSlice → List SourceSlice
first_bytes_of n [] = []
first_bytes_of n (slice ∷ slices) =
    if nat_le slice.size n then slice ∷ first_bytes_of (n - slice.size) slices else
    (if n == 0 then [] else record slice { size = n } ∷ [])
