-- The faults of a file in their order: the rules by which its header, its directory and its streams are refused. The
-- conditions are on the file's bytes. A byte that is missing counts as 0 here, but a rule before refuses such a file.
use Rattle.std.specs.Prelude.{◌≡◌, ◌⊎◌, ℕ, ◌+◌, ◌*◌, ◌<◌, ◌≤◌, nat_eq, IsTrue, List, [], ◌∷◌, ◌++◌, length, map, take}
use Rattle.std.specs.Prelude.{slice_index, codes, Option}
use Rattle.std.specs.declared.io.ErrorKind.TheVariants.{UnexpectedEof}
use Rattle.std.specs.List.{range_with_len, starts_with}
use Rattle.pdb_base.specs.Refusal.{unexpected_eof, unimplemented_feature, unrecognized_file_format, invalid_page_size}
use Rattle.pdb_base.specs.Refusal.{page_reference_out_of_range, stream_not_found, io_error}
use Rattle.pdb_base.specs.Reading.{word_at}
use Rattle.pdb_base.specs.Rules.{Rule, ◌⇒◌, rules_of_each}
use Rattle.pdb_msf.specs.Pages.{pages, position_of}
use Rattle.pdb_msf.specs.declared.header.Geometry.{Geometry}
use Rattle.pdb_msf.specs.Header.{Head, is_page_size, small_magic, big_magic, directory_pages, location_pages}
use Rattle.pdb_msf.specs.Directory.{absent, limit_size, start_of}

-- ---- page numbers, and what lies in their pages

-- `count` u32 numbers, one behind the other from an offset on
abbrev pub numbers_from : ℕ → ℕ → List ℕ → List ℕ
numbers_from start count bytes = map (λ i. word_at (start + 4 * i) bytes) (range_with_len 0 count)

-- Each of these numbers in turn must be within the bytes, and must be neither 0 nor above the number of pages used.
abbrev pub number_rules : ℕ → ℕ → ℕ → List ℕ → List Rule
number_rules pages_used start count bytes = rules_of_each (range_with_len 0 count) (λ i.
    let number = word_at (start + 4 * i) bytes in
    (length bytes < start + 4 * i + 4 ⇒ unexpected_eof)
    ∷ ((number ≡ 0) ⊎ (pages_used < number) ⇒ page_reference_out_of_range number)
    ∷ [])

-- the first `size` bytes that lie in pages: byte i is the file's byte at page[i / page size] * page
-- size + i % page size
abbrev pub bytes_in : List ℕ → ℕ → List ℕ → ℕ → List ℕ
bytes_in file page_size numbers size =
    map (slice_index file) (map (position_of page_size numbers) (range_with_len 0 size))

-- One of these bytes is past the end of the file.
abbrev pub IsPastEnd : List ℕ → ℕ → List ℕ → ℕ → Type 0
IsPastEnd file page_size numbers size = (i : ℕ) × (i < size) × (length file ≤ position_of page_size numbers i)

-- ---- the header

-- the numbers of a header
abbrev pub geometry_in : List ℕ → Geometry
geometry_in view = record
    { page_size = word_at 32 view; pages_used = word_at 40 view; directory_size = word_at 44 view }

-- a header: its numbers, and the numbers of the pages that locate the directory
abbrev pub head_in : List ℕ → Head
head_in view = record {
  geometry = geometry_in view;
  location = numbers_from 52 (location_pages (geometry_in view)) view;
}

-- the rules of the header at the front of bytes
abbrev pub header_rules : List ℕ → List Rule
header_rules view =
    (length view < 52 ⇒ unexpected_eof)
    ∷ (IsTrue (starts_with nat_eq view small_magic) ⇒ unimplemented_feature (codes "small MSF file format"))
    ∷ (¬ IsTrue (starts_with nat_eq view big_magic) ⇒ unrecognized_file_format)
    ∷ (¬ IsTrue (is_page_size (word_at 32 view)) ⇒ invalid_page_size (word_at 32 view))
    ∷ number_rules (word_at 40 view) 52 (location_pages (geometry_in view)) view

-- the rules of the header of a file, which is within its first 4096 bytes
abbrev pub file_rules : List ℕ → List Rule
file_rules file = (length file < 4096 ⇒ unrecognized_file_format) ∷ header_rules (take 4096 file)

-- ---- the directory

-- the bytes that hold the page numbers of the directory
abbrev pub location_in : List ℕ → Head → List ℕ
location_in file head =
    bytes_in file head.geometry.page_size head.location (4 * directory_pages head.geometry)

-- the page numbers of the directory
abbrev pub directory_numbers_in : List ℕ → Head → List ℕ
directory_numbers_in file head = numbers_from 0 (directory_pages head.geometry) (location_in file head)

-- the bytes of the directory
abbrev pub directory_in : List ℕ → Head → List ℕ
directory_in file head =
    bytes_in file head.geometry.page_size (directory_numbers_in file head) head.geometry.directory_size

-- the rules of the directory
abbrev pub directory_rules : List ℕ → Head → List Rule
directory_rules file head =
    let geometry = head.geometry in
    (IsPastEnd file geometry.page_size head.location (4 * directory_pages geometry) ⇒ io_error UnexpectedEof)
    ∷ (number_rules geometry.pages_used 0 (directory_pages geometry) (location_in file head)
    ++ (IsPastEnd file geometry.page_size (directory_numbers_in file head) geometry.directory_size
    ⇒ io_error UnexpectedEof)
    ∷ [])

-- ---- a stream

-- the size that a directory has for stream n
abbrev pub size_at : ℕ → List ℕ → ℕ
size_at n directory = word_at (4 + 4 * n) directory

-- the offset in a directory at which the page numbers of stream n begin
abbrev pub numbers_start : ℕ → ℕ → List ℕ → ℕ
numbers_start page_size n directory = start_of page_size (word_at 0 directory) directory n

-- the page numbers of stream n in a directory
abbrev pub stream_numbers_in : ℕ → ℕ → List ℕ → List ℕ
stream_numbers_in page_size n directory =
    numbers_from (numbers_start page_size n directory) (pages page_size (size_at n directory)) directory

-- The rules of a stream under a limit. The directory is read. It has a count of streams, which is above n, and the
-- sizes up to that of stream n, which isn't absent. It has the other sizes, and the page numbers of the streams before.
-- Each page number of stream n is there and is good, whatever the limit. Its bytes up to the limit are in the file.
abbrev pub stream_rules : List ℕ → Head → ℕ → Option ℕ → List Rule
stream_rules file head n limit =
    let page_size = head.geometry.page_size in
    let directory = directory_in file head in
    let count = word_at 0 directory in
    let size = size_at n directory in
    let start = numbers_start page_size n directory in
    directory_rules file head  -- 1
    ++ ((length directory < 4 ⇒ unexpected_eof)  -- 2
    ∷ (count ≤ n ⇒ stream_not_found n)  -- 3
    ∷ (length directory < 4 + 4 * n + 4 ⇒ unexpected_eof)  -- 4
    ∷ (size ≡ absent ⇒ stream_not_found n)  -- 5
    ∷ (length directory < 4 + 4 * count ⇒ unexpected_eof)  -- 6
    ∷ (length directory < start ⇒ unexpected_eof)  -- 7
    ∷ (number_rules head.geometry.pages_used start (pages page_size size) directory  -- 8
    ++ (IsPastEnd file page_size (stream_numbers_in page_size n directory) (limit_size size limit)  -- 9
    ⇒ io_error UnexpectedEof)
    ∷ []))
