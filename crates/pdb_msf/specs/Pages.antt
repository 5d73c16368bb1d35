-- A file is cut into pages of one size, which are named by their numbers. What it holds, such as a
-- stream, lies scattered over pages.
use Rattle.std.specs.Prelude.{ℕ, ◌+◌, ◌*◌, ◌/◌, ◌%◌, ◌&&◌, nat_lt, nat_le, if◌then◌else◌, List, [], ◌∷◌, map}
use Rattle.std.specs.Prelude.{slice_index, slice_get, Option, Some, None, Ok, Err}
use Rattle.std.specs.Int.{div_ceil}
use Rattle.std.specs.List.{range_with_len}
use Rattle.pdb_base.specs.Endian.{little_number}
use Rattle.pdb_base.specs.Refusal.{unexpected_eof, page_reference_out_of_range}
use Rattle.pdb_base.specs.Answer.{Answer, ◌>>=◌, values_of_all}
use Rattle.pdb_msf.specs.Source.{bytes_at}

-- how many pages it takes to hold this many bytes
unfoldable pub pages : ℕ → ℕ → ℕ
pages page_size bytes = div_ceil bytes page_size

-- the position in the file of byte i of what lies scattered over these pages
abbrev pub position_of : ℕ → List ℕ → ℕ → ℕ
position_of page_size numbers i = slice_index numbers (i / page_size) * page_size + i % page_size

-- the first `size` bytes of these pages of the file, or None if one of the bytes is past the file's end
unfoldable pub scatter : List ℕ → ℕ → List ℕ → ℕ → Option (List ℕ)
scatter file page_size numbers size = bytes_at file (map (position_of page_size numbers) (range_with_len 0 size))

-- the little-endian u32 numbers in bytes, four bytes each; one to three bytes
-- left over at the end are no number
abbrev pub words : List ℕ → List ℕ
words (a ∷ b ∷ c ∷ d ∷ rest) = little_number 4 (a ∷ b ∷ c ∷ d ∷ []) ∷ words rest
words _ = []

-- the page number, if it is valid: neither 0 nor above the number of pages used; any other is refused
abbrev pub valid_page : ℕ → ℕ → Answer ℕ
valid_page pages_used number = if nat_lt 0 number
    && nat_le number pages_used then Ok number else Err (page_reference_out_of_range number)

-- a word of a list, which is refused with `unexpected_eof` if the list has no such word
abbrev pub present : Option ℕ → Answer ℕ
present None = Err unexpected_eof
present (Some word) = Ok word

-- the word at index i as a page number
abbrev pub page_number : ℕ → List ℕ → ℕ → Answer ℕ
page_number pages_used numbers i = present (slice_get numbers i) >>= valid_page pages_used

-- the first `count` words as page numbers, each checked before the next
unfoldable pub page_numbers : ℕ → ℕ → List ℕ → Answer (List ℕ)
page_numbers pages_used count numbers = values_of_all (map (page_number pages_used numbers) (range_with_len 0 count))
