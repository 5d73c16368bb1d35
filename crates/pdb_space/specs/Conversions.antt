-- Addresses and places in an image before and after a tool rearranged it, and how they are converted into one
-- another. Those of the image before are called internal; the parts of a program database use them.
use Rattle.std.specs.Prelude.{◌≡◌, ℕ, if◌then◌else◌, List, [], Option, Some, None, IfSome, unwrap_or}
use Rattle.std.specs.declared.ops.Range.{Range}
use Rattle.std.specs.List.{cons_option}
use Rattle.std.specs.Option.{is_none}
use Rattle.pdb_space.specs.declared.section_header.ImageSectionHeader.{ImageSectionHeader}
use Rattle.pdb_space.specs.SectionPlace.{SectionPlace}
use Rattle.pdb_space.specs.Omap.{OmapValue, IsSortedBySource, MovesSomehow, shift}
use Rattle.pdb_space.specs.Ranges.{parts, unless_empty}
use Rattle.pdb_space.specs.Sections.{section_of, address_of}
use Rattle.pdb_space.specs.Steps.{◌>>=◌}

-- what is known of an image before and after: its sections, and the OMAP tables
-- that lead from one to the other
pub record AddressMapValue : Type 0 where
  pub original_sections : List ImageSectionHeader
  pub transformed_sections : Option (List ImageSectionHeader)
  pub transformed_to_original : Option (List OmapValue)
  pub original_to_transformed : Option (List OmapValue)

-- where an OMAP table moves an address; without a table the address stays the same
abbrev pub translation_by : Option (List OmapValue) → ℕ → Option ℕ
translation_by None address = Some address
translation_by (Some table) address = shift table address

-- the parts of a range as an OMAP table moves them; without a table the range itself, if it isn't empty
unfoldable pub translated_parts : Option (List OmapValue) → Range ℕ → List (Range ℕ)
translated_parts None range = cons_option (unless_empty range) []
translated_parts (Some table) range = parts table range

-- the sections of the image as it is loaded, which are the original ones if no others are known
abbrev pub loaded_sections : AddressMapValue → List ImageSectionHeader
loaded_sections map = unwrap_or map.transformed_sections map.original_sections

-- ---- conversions of an address in the image as it is loaded

-- the internal address from which this address was moved
unfoldable pub rva_to_internal_rva : AddressMapValue → ℕ → Option ℕ
rva_to_internal_rva map address = translation_by map.transformed_to_original address

-- the place of this address in a section of the image as it is loaded
unfoldable pub rva_to_section_offset : AddressMapValue → ℕ → Option SectionPlace
rva_to_section_offset map address = section_of (loaded_sections map) address

-- the place of its internal address in a section of the original image
unfoldable pub rva_to_internal_offset : AddressMapValue → ℕ → Option SectionPlace
rva_to_internal_offset map address = do
  internal ← rva_to_internal_rva map address
  section_of map.original_sections internal

-- ---- conversions of an internal address

-- the address to which this internal address was moved
unfoldable pub internal_rva_to_rva : AddressMapValue → ℕ → Option ℕ
internal_rva_to_rva map internal = translation_by map.original_to_transformed internal

-- the place of the address to which it was moved, in a section of the image as it is loaded
unfoldable pub internal_rva_to_section_offset : AddressMapValue → ℕ → Option SectionPlace
internal_rva_to_section_offset map internal = do
  address ← internal_rva_to_rva map internal
  section_of (loaded_sections map) address

-- the place of this internal address in a section of the original image
unfoldable pub internal_rva_to_internal_offset : AddressMapValue → ℕ → Option SectionPlace
internal_rva_to_internal_offset map internal = section_of map.original_sections internal

-- ---- conversions of a place in the image as it is loaded

-- the address of this place
unfoldable pub section_offset_to_rva : AddressMapValue → SectionPlace → Option ℕ
section_offset_to_rva map place = address_of (loaded_sections map) place

-- the internal address from which the address of this place was moved
unfoldable pub section_offset_to_internal_rva : AddressMapValue → SectionPlace → Option ℕ
section_offset_to_internal_rva map place = do
  address ← section_offset_to_rva map place
  rva_to_internal_rva map address

-- The place of that internal address in the original image. Without transformed sections it is the same place
-- as given, whatever sections there are.
unfoldable pub section_offset_to_internal_offset : AddressMapValue → SectionPlace → Option SectionPlace
section_offset_to_internal_offset map place =
    if is_none map.transformed_sections then Some place else section_offset_to_internal_rva map place
    >>= internal_rva_to_internal_offset map

-- ---- conversions of an internal place

-- the internal address of this place
unfoldable pub internal_offset_to_internal_rva : AddressMapValue → SectionPlace → Option ℕ
internal_offset_to_internal_rva map place = address_of map.original_sections place

-- the address to which the internal address of this place was moved
unfoldable pub internal_offset_to_rva : AddressMapValue → SectionPlace → Option ℕ
internal_offset_to_rva map place = do
  internal ← internal_offset_to_internal_rva map place
  internal_rva_to_rva map internal

-- The place of that address in the image as it is loaded. Without transformed sections it is the same place
-- as given, whatever sections there are.
unfoldable pub internal_offset_to_section_offset : AddressMapValue → SectionPlace → Option SectionPlace
internal_offset_to_section_offset map place =
    if is_none map.transformed_sections then Some place else internal_offset_to_rva map place
    >>= rva_to_section_offset map

-- ---- conversions with a table that isn't sorted

-- The conversion starts from an address; some record of the table with a source at or below it moves it, and
-- the result is what is made of the address to which it is moved.
pub record ComesSomehow {A : Type 0} (start : Option ℕ) (made : ℕ → Option A) (table : List OmapValue)
    (result : A) : Type 0 where
  pub address : ℕ
  pub starts : start ≡ Some address
  pub goes_to : ℕ
  pub moves : MovesSomehow table address goes_to
  pub comes : made goes_to ≡ Some result

-- The result of a conversion that uses a table. If there is no table, or if the sources of the table don't
-- decrease, it is the one that is meant. With any table it is None, or a result that some record of the
-- table gives, as the relation between tables and results says.
pub record IsByTable {A : Type 0} (table : Option (List OmapValue)) (meant : Option A)
    (somehow : List OmapValue → A → Type 0) (result : Option A) : Type 0 where
  pub exact : IfSome table IsSortedBySource → result ≡ meant
  pub bound : IfSome table (λ records. IfSome result (somehow records))
