-- Where the bytes of a stream are in a file.
use Rattle.std.specs.Prelude.{ℕ, ◌+◌, ◌*◌, ◌/◌, ◌%◌, nat_lt, if◌then◌else◌, List, [], slice_get, Option, None, Ok, Err}
use Rattle.std.specs.Option.{option_map}
use Rattle.pdb_base.specs.Answer.{Answer}
use Rattle.pdb_msf.specs.Layout.{LayoutValue, pages_by, size_by}
use Rattle.pdb_validation.specs.Sizes.{size_or_none}

-- the size of the pages of a file, and of a stream of it the size and the numbers of its pages in their order
pub record PagesValue : Type 0 where
  pub page_size : ℕ
  pub size : ℕ
  pub numbers : List ℕ

abbrev pub numbers_or_none : Answer (List ℕ) → List ℕ
numbers_or_none (Ok numbers) = numbers
numbers_or_none (Err refusal) = []

-- the pages of stream n of a layout; none, if there is no such stream
unfoldable pub stream_pages : LayoutValue → ℕ → PagesValue
stream_pages layout n = record {
  page_size = layout.head.geometry.page_size;
  size = size_or_none (size_by layout n);
  numbers = numbers_or_none (pages_by layout n);
}

-- the byte of the file that is byte i of a stream, or None if the stream has no such byte
unfoldable pub file_byte : PagesValue → ℕ → Option ℕ
file_byte pages i =
    if nat_lt i pages.size
    then option_map (λ page. page * pages.page_size + i % pages.page_size)
    (slice_get pages.numbers (i / pages.page_size))
    else None
