-- Who owns the pages of a file (Microsoft's msf.cpp): each page has at most one owner, and none of a stream is free.
use Rattle.std.specs.Prelude.{ℕ, ◌+◌, ◌*◌, ◌/◌, ◌%◌, ◌^◌, ◌==◌, Bool, false, ◌&&◌, ◌||◌, not, nat_lt, List, [], ◌∷◌}
use Rattle.std.specs.Prelude.{◌++◌, length, slice_get, Option, Some, None, Ok, Err}
use Rattle.std.specs.Bool.{then_some}
use Rattle.std.specs.Int.{div_ceil}
use Rattle.std.specs.List.{flat_map, list_any}
use Rattle.std.specs.Option.{option_to_list}
use Rattle.pdb_base.specs.Answer.{Answer}
use Rattle.pdb_base.specs.Reading.{word_at}
use Rattle.pdb_msf.specs.Layout.{LayoutValue, layout_of}
use Rattle.pdb_validation.specs.PageOwners.{layout_owners}
use Rattle.pdb_validation.specs.declared.inconsistency.Inconsistency.{Inconsistency}
use Rattle.pdb_validation.specs.declared.inconsistency.Inconsistency.TheVariants.{PageFree, PageShared}
use Rattle.pdb_validation.specs.declared.mismatch.Mismatch.{Mismatch}
use Rattle.pdb_validation.specs.declared.page_owners.PageOwner.{PageOwner}

-- where the page of an owner begins
abbrev pub at_page : PageOwner → Inconsistency → Mismatch
at_page owner what = record { stream = owner.stream; index = None; byte = owner.byte; what = what }

-- ---- shared pages

-- whether a page is the header, which is page 0, or one of a free page map: pages 1 and 2 of each `page_size` pages
abbrev pub is_reserved : ℕ → ℕ → Bool
is_reserved page_size page = page == 0 || (page % page_size == 1 || page % page_size == 2)

-- whether a page is that of one of these owners
abbrev pub has_owner : ℕ → List PageOwner → Bool
has_owner page owners = list_any (λ owner. owner.page == page) owners

-- whether a page of the file has an owner already; the file has that many pages
abbrev pub is_owned : ℕ → ℕ → List PageOwner → ℕ → Bool
is_owned page_size count before page = nat_lt page count && (is_reserved page_size page || has_owner page before)

-- The pages that have an owner already: the header, the free page maps, or one that is before it in the list. The
-- first argument is the size of a page, the second is how many the file has.
abbrev pub shared_pages : ℕ → ℕ → List PageOwner → List PageOwner → List Mismatch
shared_pages page_size count before [] = []
shared_pages page_size count before (owner ∷ owners) =
    option_to_list (then_some (is_owned page_size count before owner.page) (at_page owner (PageShared owner.page)))
    ++ shared_pages page_size count (owner ∷ before) owners

-- ---- free pages

-- the byte of the file that holds the bit of a page in a free page map: byte p / 8 of the map, whose bytes lie in the
-- page of its number and in each `page_size` pages further on
abbrev pub free_byte : ℕ → ℕ → ℕ → ℕ
free_byte page_size map page =
    (map + page / 8 / page_size * page_size) * page_size + page / 8 % page_size

-- whether bit n of a byte is set, if there is one
abbrev pub has_bit : Option ℕ → ℕ → Bool
has_bit None n = false
has_bit (Some byte) n = byte / 2 ^ n % 2 == 1

-- the number of the free page map that is active, as the header says it: 1 or 2
abbrev pub active_map : List ℕ → ℕ
active_map file = word_at 36 file

-- whether the active free page map marks a page as free
abbrev pub is_free : List ℕ → ℕ → ℕ → ℕ → Bool
is_free file page_size map page =
    (map == 1 || map == 2) && has_bit (slice_get file (free_byte page_size map page)) (page % 8)

-- whether a stream is one whose pages are not free: any but 0, in which Microsoft's tools leave the directory of the
-- file before
abbrev pub is_in_use : Option ℕ → Bool
is_in_use None = false
is_in_use (Some number) = not (number == 0)

-- the mismatch of a page, if it is marked as free
abbrev pub free_page : List ℕ → ℕ → PageOwner → List Mismatch
free_page file page_size owner =
    option_to_list (then_some (is_in_use owner.stream && is_free file page_size (active_map file) owner.page)
    (at_page owner (PageFree owner.page)))

-- the pages of streams that the free page map marks as free
abbrev pub free_pages : List ℕ → ℕ → List PageOwner → List Mismatch
free_pages file page_size owners = flat_map (free_page file page_size) owners

-- ---- all

-- The pages of a layout that have a second owner, and then those that are marked as free.
unfoldable pub layout_mismatches : List ℕ → LayoutValue → List Mismatch
layout_mismatches file layout =
    let page_size = layout.head.geometry.page_size in
    let owners = layout_owners file layout in
    shared_pages page_size (div_ceil (length file) page_size) [] owners ++ free_pages file page_size owners

-- the same for a file whose layout can be read
abbrev pub mismatches_by : List ℕ → Answer LayoutValue → List Mismatch
mismatches_by file (Ok layout) = layout_mismatches file layout
mismatches_by file (Err refusal) = []

abbrev pub page_mismatches : List ℕ → List Mismatch
page_mismatches file = mismatches_by file (layout_of file)
