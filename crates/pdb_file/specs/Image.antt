-- What an image says of its program database (the Portable Executable specification): the record for CodeView to which
-- its debug directory leads.
use Rattle.std.specs.Prelude.{◌≡◌, ℕ, zero, suc, ◌+◌, ◌-◌, ◌*◌, ◌/◌, ◌==◌, ◌&&◌, ◌||◌, Bool, nat_eq, nat_lt, nat_le}
use Rattle.std.specs.Prelude.{min, if◌then◌else◌, List, [], ◌∷◌, ◌++◌, length, drop, codes, Option, Some, None}
use Rattle.std.specs.Prelude.{Result, Ok, Err}
use Rattle.std.specs.List.{starts_with}
use Rattle.pdb_base.specs.Endian.{little_number}
use Rattle.pdb_base.specs.Answer.{Answer, ◌>>=◌}
use Rattle.pdb_base.specs.Reading.{front_at, number_at, text_at}
use Rattle.pdb_msf.specs.Source.{file_part}
use Rattle.pdb_space.specs.SectionHeader.{section_header_at}
use Rattle.pdb_space.specs.declared.section_header.ImageSectionHeader.{ImageSectionHeader}
use Rattle.uuid.specs.Parts.{swap_fields}
use Rattle.pdb_file.specs.Format.{image_magic}
use Rattle.pdb_file.specs.Identity.{age_of}
use Rattle.pdb_file.specs.declared.identity.Identity.{Identity}
use Rattle.pdb_file.specs.declared.image.CodeView.{CodeView}
use Rattle.pdb_file.specs.declared.image.Entry.{Entry}
use Rattle.pdb_file.specs.declared.image.Headers.{Headers}
use Rattle.pdb_file.specs.declared.image.NoDatabase.{NoDatabase}
use Rattle.pdb_file.specs.declared.image.NoDatabase.TheVariants as none
use Rattle.pdb_file.specs.declared.image.Span.{Span}

-- what bytes of an image say, or why the image names no database
abbrev pub OrNoDatabase : Type 0 → Type 0
OrNoDatabase A = Result A NoDatabase

-- what was found, seen in another way
abbrev pub found_view : {A B : Type 0} → (A → B) → OrNoDatabase A → OrNoDatabase B
found_view view (Ok value) = Ok (view value)
found_view view (Err reason) = Err reason

-- what is read by what was found; or the reason, if nothing was
abbrev pub by_found : {A B : Type 0} → (A → Answer (OrNoDatabase B)) → OrNoDatabase A → Answer (OrNoDatabase B)
by_found next (Ok value) = next value
by_found next (Err reason) = Ok (Err reason)

-- the first of `count` values that passes a test, of which each is read after the one before
abbrev pub first_read : {A : Type 0} → (List ℕ → Answer (A × List ℕ)) → (A → Bool) → ℕ → List ℕ → Answer (Option A)
first_read read passes zero bytes = Ok None
first_read read passes (suc count) bytes =
    read bytes >>= λ x. if passes x.0 then Ok (Some x.0) else first_read read passes count x.1

-- ---- the headers

-- the headers at an offset: a signature of four bytes, and the COFF header of twenty
unfoldable pub headers_in : ℕ → List ℕ → OrNoDatabase Headers
headers_in start header =
    if starts_with nat_eq header (codes "PE" ++ 0 ∷ 0 ∷ []) then Ok (record {
      start = start;
      machine = little_number 2 (drop 4 header);
      sections = little_number 2 (drop 6 header);
      optional_size = little_number 2 (drop 20 header);
    }) else Err none.NoHeader

-- the headers of an image, whose offset is in the last four of its first 64 bytes
unfoldable pub image_headers : List ℕ → Answer (OrNoDatabase Headers)
image_headers file = file_part file 0 64 >>= λ opening.
    if starts_with nat_eq opening image_magic then (
    file_part file (little_number 4 (drop 60 opening)) 24
    >>= λ header. Ok (headers_in (little_number 4 (drop 60 opening)) header)
    ) else Ok (Err none.NoHeader)

-- ---- the debug directory

-- the address and size of the debug directory, the seventh one of an optional header that has the number of its
-- directories at an offset; at most 4096 entries of 28 bytes
unfoldable pub span_in : List ℕ → ℕ → OrNoDatabase Span
span_in optional count_at =
    let count = little_number 4 (drop count_at optional) in
    let rva = little_number 4 (drop (count_at + 52) optional) in
    let size = little_number 4 (drop (count_at + 56) optional) in
    if nat_lt (length optional) (count_at + 60) then Err none.NoDirectory
    else if nat_le count 6 || (rva == 0 || nat_lt size 28) then Err none.NoDirectory
    else if nat_lt 4096 (size / 28) then Err none.LargeDirectory
    else Ok (record { rva = rva; size = size })

-- the debug directory that the optional header of an image of 32 or 64 bits names
unfoldable pub debug_directory_in : List ℕ → OrNoDatabase Span
debug_directory_in optional =
    if little_number 2 optional == 0x10b then span_in optional 92
    else if little_number 2 optional == 0x20b then span_in optional 108
    else Err none.UnknownHeader

-- the debug directory that the headers of an image name; of the optional header the first 168 bytes are read
unfoldable pub directory_span : Headers → List ℕ → Answer (OrNoDatabase Span)
directory_span headers file =
    if nat_lt (min headers.optional_size 168) 2 then Ok (Err none.UnknownHeader)
    else (
    file_part file (headers.start + 24) (min headers.optional_size 168)
    >>= λ optional. Ok (debug_directory_in optional)
    )

-- ---- where it is in the file

-- whether a section holds an address: its size is that in memory, or that in the file if it has none in memory
abbrev pub section_holds : ℕ → ImageSectionHeader → Bool
section_holds rva section = nat_le section.virtual_address rva && nat_lt (rva - section.virtual_address)
    (if section.virtual_size == 0 then section.size_of_raw_data else section.virtual_size)

-- the offset in the file of a part of the image that begins in a section, all of which the section has in the file
abbrev pub stored_at : Span → Option ImageSectionHeader → OrNoDatabase ℕ
stored_at span None = Err none.Unmapped
stored_at span (Some section) =
    if nat_lt section.size_of_raw_data (span.rva - section.virtual_address + span.size) then Err none.Unmapped
    else Ok (section.pointer_to_raw_data + (span.rva - section.virtual_address))

-- the offset in the file of a part of the image, by the first section that holds its address; the table of sections, of
-- forty bytes each, follows the optional header
unfoldable pub directory_start : Headers → Span → List ℕ → Answer (OrNoDatabase ℕ)
directory_start headers span file =
    if 40 * headers.sections == 0 then Ok (Err none.Unmapped)
    else (
    file_part file (headers.start + 24 + headers.optional_size) (40 * headers.sections)
    >>= λ table. first_read section_header_at (section_holds span.rva) headers.sections table
    >>= λ section. Ok (stored_at span section)
    )

-- ---- its entries

-- the entry of 28 bytes at the front of bytes, and the bytes after it
unfoldable pub entry_at : List ℕ → Answer (Entry × List ℕ)
entry_at bytes = do
  front ← front_at 12 bytes
  kind ← number_at 4 front.1
  size ← number_at 4 kind.1
  address ← number_at 4 size.1
  start ← number_at 4 address.1
  Ok (record { kind = kind.0; size = size.0; start = start.0 }, start.1)

-- whether an entry is for CodeView
abbrev pub is_code_view : Entry → Bool
is_code_view entry = entry.kind == 2

-- the first entry for CodeView of the debug directory at an offset
unfoldable pub directory_entry : ℕ → ℕ → List ℕ → Answer (Option Entry)
directory_entry start size file =
    if size / 28 == 0 then Ok None
    else (file_part file start (28 * (size / 28)) >>= first_read entry_at is_code_view (size / 28))

-- ---- the record

-- what a record says
pub record RecordValue : Type 0 where
  pub machine : ℕ
  pub guid : List ℕ
  pub age : ℕ
  pub path : List ℕ

abbrev pub record_view : CodeView → RecordValue
record_view named = record { machine = named.machine; guid = named.guid; age = named.age; path = named.path.items }

-- a record: a signature of four bytes, the GUID, of which the first three fields have their lowest byte first, the age,
-- and the path up to a NUL
unfoldable pub code_view_at : ℕ → List ℕ → Answer RecordValue
code_view_at machine bytes = do
  signature ← front_at 4 bytes
  guid ← front_at 16 signature.1
  age ← number_at 4 guid.1
  path ← text_at age.1
  Ok (record { machine = machine; guid = swap_fields guid.0; age = age.0; path = path.0 })

-- a record that names a database; an empty path names none
abbrev pub named_by : RecordValue → OrNoDatabase RecordValue
named_by value = if length value.path == 0 then Err none.Unnamed else Ok value

-- what a record says, if it is of the format with a GUID
unfoldable pub record_in : ℕ → List ℕ → Answer (OrNoDatabase RecordValue)
record_in machine bytes =
    if starts_with nat_eq bytes (codes "NB10") then Ok (Err none.OlderRecord)
    else if starts_with nat_eq bytes (codes "RSDS") then (
    code_view_at machine bytes >>= λ value. Ok (named_by value)
    ) else Ok (Err none.UnknownRecord)

-- the record of an entry, of at most 65,560 bytes
abbrev pub entry_record : ℕ → Option Entry → List ℕ → Answer (OrNoDatabase RecordValue)
entry_record machine None file = Ok (Err none.Unnamed)
entry_record machine (Some entry) file =
    if entry.size == 0 then Ok (Err none.UnknownRecord)
    else if nat_lt 65560 entry.size then Ok (Err none.LargeRecord)
    else (file_part file entry.start entry.size >>= record_in machine)

-- what an image says of its database
unfoldable pub image_record : List ℕ → Answer (OrNoDatabase RecordValue)
image_record file =
    image_headers file >>= by_found (λ headers.
    directory_span headers file >>= by_found (λ span.
    directory_start headers span file >>= by_found (λ start.
    directory_entry start span.size file >>= λ entry. entry_record headers.machine entry file)))

-- ---- the name

-- whether a byte separates the parts of a path
abbrev pub is_separator : ℕ → Bool
is_separator byte = byte == 0x5c || byte == 0x2f

-- the part of a path behind the last separator of its rest, or else the part that is given
abbrev pub part_behind : List ℕ → List ℕ → List ℕ
part_behind part [] = part
part_behind part (byte ∷ rest) = if is_separator byte then part_behind rest rest else part_behind part rest

-- the part of a path behind its last separator
abbrev pub last_part : List ℕ → List ℕ
last_part path = part_behind path path

-- A file is the database that an image names: both have the same GUID and the same age.
pub record IsDatabaseOf (image : CodeView) (identity : Identity) : Type 0 where
  pub guid : image.guid ≡ identity.guid
  pub age : image.age ≡ age_of identity
