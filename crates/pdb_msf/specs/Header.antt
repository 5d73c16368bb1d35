-- The header of a file in the MSF 7.00 format (the layout of `BIGMSF_HDR` in Microsoft's msf.cpp): 32 bytes
-- of magic, then five u32, which are page size, free page map, pages used, directory size and a reserved
-- field, and from byte 52 on the list of the pages that hold the directory's page numbers.
use Rattle.std.specs.Prelude.{◌≡◌, ℕ, ◌*◌, Bool, IsTrue, ◌&&◌, not, nat_eq, nat_lt, nat_le, if◌then◌else◌, List, []}
use Rattle.std.specs.Prelude.{◌∷◌, ◌++◌, length, take, Ok, Err, codes}
use Rattle.std.specs.List.{starts_with}
use Rattle.std.specs.Int.{is_power_of_two}
use Rattle.pdb_base.specs.Refusal.{unexpected_eof, unimplemented_feature, unrecognized_file_format, invalid_page_size}
use Rattle.pdb_base.specs.Answer.{Answer, ◌>>=◌, ok_if}
use Rattle.pdb_base.specs.Reading.{front_at, number_at}
use Rattle.pdb_msf.specs.declared.header.Geometry.{Geometry}
use Rattle.pdb_msf.specs.declared.header.Header.{Header}
use Rattle.pdb_msf.specs.Pages.{pages, words, page_numbers}

-- whether a page size is valid: a power of two from 256 to 8,388,608
abbrev pub is_page_size : ℕ → Bool
is_page_size size = is_power_of_two size && (nat_le 0x100 size && nat_le size 0x800000)

-- what a header says: its numbers, and the pages that hold the directory's page numbers
pub record Head : Type 0 where
  pub geometry : Geometry
  pub location : List ℕ

-- what a header that was read says
abbrev pub header_view : Header → Head
header_view header = record { geometry = header.geometry; location = header.location.items }

-- the 32 bytes at the front of a file of format 7.00, which is the one that is read
unfoldable pub big_magic : List ℕ
big_magic = codes "Microsoft C/C++ MSF 7.00\r\n" ++ 0x1a ∷ 0x44 ∷ 0x53 ∷ 0 ∷ 0 ∷ 0 ∷ []

-- the 42 bytes at the front of a file of the older format 2.00
unfoldable pub small_magic : List ℕ
small_magic = codes "Microsoft C/C++ program database 2.00\r\n" ++ 0x1a ∷ 0x4a ∷ 0x47 ∷ []

-- The magic of 7.00 is accepted. Fewer than 52 bytes are refused with `unexpected_eof`, the magic of 2.00
-- with `unimplemented_feature`, and any other with `unrecognized_file_format`.
unfoldable pub magic_of : List ℕ → Answer (Unit {0})
magic_of view = do
  whole ← ok_if (nat_le 52 (length view)) unexpected_eof
  newer ← ok_if (not (starts_with nat_eq view small_magic)) (unimplemented_feature (codes "small MSF file format"))
  ok_if (starts_with nat_eq view big_magic) unrecognized_file_format

-- the fields of a header in their order, and the bytes after them
unfoldable pub fields_of_header : List ℕ → Answer (Geometry × List ℕ)
fields_of_header view = do
  magic ← front_at 32 view
  page_size ← number_at 4 magic.1
  free_page_map ← number_at 4 page_size.1
  pages_used ← number_at 4 free_page_map.1
  directory_size ← number_at 4 pages_used.1
  reserved ← number_at 4 directory_size.1
  Ok (record { page_size = page_size.0; pages_used = pages_used.0; directory_size = directory_size.0 }, reserved.1)

-- how many pages hold the directory
abbrev pub directory_pages : Geometry → ℕ
directory_pages geometry = pages geometry.page_size geometry.directory_size

-- how many pages hold the page numbers of the directory, four bytes each
abbrev pub location_pages : Geometry → ℕ
location_pages geometry = pages geometry.page_size (4 * directory_pages geometry)

-- A header that was read has a valid page size, and lists as many pages as the directory's page numbers take.
pub record IsHeader (header : Header) : Type 0 where
  pub sized : IsTrue (is_page_size header.geometry.page_size)
  pub located : length header.location.items ≡ location_pages header.geometry

-- the numbers of the header at the front of a file, which must have the magic of 7.00 and a valid page
-- size, and the bytes after them
unfoldable pub geometry_of : List ℕ → Answer (Geometry × List ℕ)
geometry_of view = do
  magic ← magic_of view
  fields ← fields_of_header view
  sized ← ok_if (is_page_size fields.0.page_size) (invalid_page_size fields.0.page_size)
  Ok fields

-- the header at the front of a file
unfoldable pub head_of : List ℕ → Answer Head
head_of view = do
  fields ← geometry_of view
  location ← page_numbers fields.0.pages_used (location_pages fields.0) (words fields.1)
  Ok (record { geometry = fields.0; location = location })

-- the first `size` bytes of a file; a shorter file is refused with `unrecognized_file_format`
unfoldable pub opening : ℕ → List ℕ → Answer (List ℕ)
opening size file = if nat_lt (length file) size then Err unrecognized_file_format else Ok (take size file)

-- the header of a file, which is within its first 4096 bytes
unfoldable pub file_head : List ℕ → Answer Head
file_head file = opening 4096 file >>= head_of
