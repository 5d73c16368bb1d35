-- The directory of a file: a u32 count of streams, a u32 size for each, and then the page numbers of the
-- first stream, of the second and so on, as many for each as its size takes.
use Rattle.std.specs.Prelude.{◌≡◌, ℕ, ◌+◌, ◌*◌, ◌^◌, ◌<◌, ◌≤◌, not, nat_lt, nat_le, ◌==◌, if◌then◌else◌, List, length}
use Rattle.std.specs.Prelude.{map, take, drop, min, slice_get, slice_index, vec_capacity, Option, Some, None, Ok}
use Rattle.std.specs.List.{sum_by, range_with_len}
use Rattle.pdb_base.specs.Refusal.{unexpected_eof, stream_not_found}
use Rattle.pdb_base.specs.Answer.{Answer, ◌>>=◌, ok_if}
use Rattle.pdb_msf.specs.Source.{bytes_or_eof}
use Rattle.pdb_msf.specs.Pages.{pages, scatter, words, present, page_numbers}
use Rattle.pdb_msf.specs.declared.header.Geometry.{Geometry}
use Rattle.pdb_msf.specs.declared.directory.Directory.{Directory}
use Rattle.pdb_msf.specs.declared.directory.StreamPlace.{StreamPlace}
use Rattle.pdb_msf.specs.declared.directory.StreamEntry.{StreamEntry}
use Rattle.pdb_msf.specs.Header.{Head, directory_pages}

-- the size that marks a stream as absent
abbrev pub absent : ℕ
absent = 0xffffffff

-- how many pages a stream of this size takes, which is 0 if it is absent
unfoldable pub pages_taken : ℕ → ℕ → ℕ
pages_taken page_size size = if size == absent then 0 else pages page_size size

-- the words after the count: the sizes of the streams, as far as the directory
-- holds them, and what follows them
abbrev pub sizes_of : List ℕ → List ℕ
sizes_of directory = drop 1 (words directory)

-- the offset at which the page numbers of stream n begin in a directory of `count` streams: after the count,
-- the size of each stream, and the page numbers of the streams before
abbrev pub start_of : ℕ → ℕ → List ℕ → ℕ → ℕ
start_of page_size count directory n = 4 + 4 * count + 4 * sum_by (pages_taken page_size) (take n (sizes_of directory))

-- Where stream n is in a directory: its size, and the offset at which its page numbers begin.
unfoldable pub stream_place_in : ℕ → ℕ → List ℕ → Answer StreamPlace
stream_place_in page_size n directory = do
  count ← present (slice_get (words directory) 0)
  known ← ok_if (nat_lt n count) (stream_not_found n)
  size ← present (slice_get (sizes_of directory) n)
  there ← ok_if (not (size == absent)) (stream_not_found n)
  let start = start_of page_size count directory n
  reached ← ok_if (nat_le start (length directory)) unexpected_eof
  Ok (record { size = size; start = start })

-- how many streams a directory has, including absent ones: its first word
abbrev pub stream_count_in : List ℕ → Answer ℕ
stream_count_in directory = present (slice_get (words directory) 0)

-- the size of stream n, which must be present and have an offset in the directory
abbrev pub size_in : ℕ → ℕ → List ℕ → Answer ℕ
size_in page_size n directory = stream_place_in page_size n directory >>= λ place. Ok place.size

-- a size cut to a limit, if there is one
abbrev pub limit_size : ℕ → Option ℕ → ℕ
limit_size size None = size
limit_size size (Some limit) = min size limit

-- a stream as the directory describes it: how many of its bytes are requested, and its pages
pub record PagesOfStream : Type 0 where
  pub size : ℕ
  pub pages : List ℕ

-- what an entry that was read says
abbrev pub entry_view : StreamEntry → PagesOfStream
entry_view entry = record { size = entry.size; pages = entry.pages.items }

-- The pages of the entry hold the bytes that are requested, and are few, as the bytes are.
pub record HasPages (page_size : ℕ) (entry : StreamEntry) : Type 0 where
  pub reached : entry.size ≤ length entry.pages.items * page_size
  pub short : entry.size < absent
  pub few : length entry.pages.items ≤ 2 ^ 40

-- Stream n of a directory, of which at most as many bytes are requested as the limit says. Its page numbers are
-- the words from its offset on, whatever the limit.
unfoldable pub stream_entry_of : Geometry → ℕ → Option ℕ → List ℕ → Answer PagesOfStream
stream_entry_of geometry n limit directory = do
  place ← stream_place_in geometry.page_size n directory
  numbers ← page_numbers geometry.pages_used (pages geometry.page_size place.size) (words (drop place.start directory))
  Ok (record { size = limit_size place.size limit; pages = numbers })

-- The numbers of the pages that hold the directory, which are in the pages that the header lists.
unfoldable pub directory_numbers : List ℕ → Head → Answer (List ℕ)
directory_numbers file head = do
  location ← bytes_or_eof (scatter file head.geometry.page_size head.location (4 * directory_pages head.geometry))
  page_numbers head.geometry.pages_used (directory_pages head.geometry) (words location)

-- The bytes of the directory, which are scattered over its pages.
unfoldable pub directory_of : List ℕ → Head → Answer (List ℕ)
directory_of file head = do
  numbers ← directory_numbers file head
  bytes_or_eof (scatter file head.geometry.page_size numbers head.geometry.directory_size)

-- the first word of a directory, which is its count of streams
abbrev pub first_word : List ℕ → ℕ
first_word directory = slice_index (words directory) 0

-- the offsets at which page numbers begin, one for each stream whose size is in the directory
abbrev pub starts_of : ℕ → List ℕ → List ℕ
starts_of page_size directory =
    map (start_of page_size (first_word directory) directory)
    (range_with_len 0 (min (first_word directory) (length (sizes_of directory))))

-- A directory that is kept in memory has the offsets of its streams, in a vector with capacity for at most
-- one offset per four bytes of the directory.
pub record HasStarts (page_size : ℕ) (directory : Directory) : Type 0 where
  pub starts : directory.starts.items ≡ starts_of page_size directory.bytes.items
  pub small : 4 * vec_capacity directory.starts ≤ length directory.bytes.items
