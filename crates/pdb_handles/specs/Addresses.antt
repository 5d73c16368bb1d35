-- OMAP tables, ranges of addresses, and the four forms of an address or a place, as a caller sees them.
use Rattle.std.specs.Prelude.{◌≡◌, ◌⊎◌, ℕ, List, Option, ◌≤◌, All, IfSome, length, map, zero, suc, ⊤, is_some}
use Rattle.std.specs.Prelude.{unwrap_or, Some, None}
use Rattle.std.specs.{declared.ops.Range.Range, Option.option_map}
use Rattle.pdb_space.specs.Conversions.{translated_parts, AddressMapValue, ComesSomehow, IsByTable}
use Rattle.pdb_space.specs.Conversions as space
use Rattle.pdb_space.specs.{Omap.IsSortedBySource, Omap.MovesSomehow, Omap.OmapValue, Omap.shift, Ranges.IsNotEmpty}
use Rattle.pdb_space.specs.SectionPlace.{SectionPlace}
use Rattle.pdb_handles.specs.Copied.{Copied, CopiesOrLacks, items_copied, nothing_copied}
use Rattle.pdb_handles.specs.declared.addresses.Translation.{Translation}
use Rattle.pdb_handles.specs.{declared.addresses.OmapRow.OmapRow, Fault.fine, Fault.not_mapped, Fault.no_value}
use Rattle.pdb_handles.specs.{Found.Found, Found.value_or_fault, declared.addresses.Span.Span}
use Rattle.pdb_handles.specs.{declared.addresses.Place.Place, declared.addresses.Forms.Forms, Frame.flag}

-- a record for the caller
abbrev pub omap_info : OmapValue → OmapRow
omap_info moved = record { source = moved.source; target = moved.target }

-- The number is 1 and the sources of the table don't decrease, or it is 0 and they do.
abbrev pub TellsOrder : List OmapValue → Found ℕ → Type 0
TellsOrder table told =
    ((told ≡ record { fault = fine; value = 1 }) × IsSortedBySource table)
    ⊎ ((told ≡ record { fault = fine; value = 0 }) × (IsSortedBySource table → ⊥))

-- The address to which a table moves an address is written, or it moves it nowhere: exactly if the table is sorted by
-- source, and in any table as some record moves it.
pub record TellsMoved (table : List OmapValue) (address old : ℕ) (told : Found ℕ) : Type 0 where
  pub exact : IsSortedBySource table → told ≡ value_or_fault not_mapped old (shift table address)
  pub unsorted : told.fault ≡ fine → MovesSomehow table address told.value
  pub found : (value : Option ℕ) × (told ≡ value_or_fault not_mapped old value)

-- a range for the caller
abbrev pub span_of : Range ℕ → Span
span_of range = record { start = range.start; end = range.end }

-- These ranges were written for the caller; or memory ran out.
abbrev pub WritesRanges : List (Range ℕ) → List Span → Copied Span → Type 0
WritesRanges ranges room told = CopiesOrLacks told room (items_copied room (map span_of ranges))

-- Some ranges were written, none of them empty and at most one for each record; or memory ran out.
pub record WritesSome (table : List OmapValue) (room : List Span) (told : Copied Span) : Type 0 where
  pub ranges : List (Range ℕ)
  pub few : length ranges ≤ length table
  pub not_empty : All IsNotEmpty ranges
  pub done : WritesRanges ranges room told

-- The ranges to which a table moves the addresses of a range were written: exactly if the table is sorted by source or
-- if there is no table, which moves none of them.
pub record WritesMoved (table : Option (List OmapValue)) (asked : Range ℕ) (room : List Span) (told : Copied Span)
    : Type 0 where
  pub exact : IfSome table IsSortedBySource → WritesRanges (translated_parts table asked) room told
  pub unsorted : IfSome table (λ table. WritesSome table room told)

-- The same for a range of an image: of the image as it is loaded if the form is 0, and of the original one if it is 2.
-- Other numbers stand for no form, and nothing is written.
abbrev pub WritesRangesOf : AddressMapValue → ℕ → Range ℕ → List Span → Copied Span → Type 0
WritesRangesOf map zero asked room told = WritesMoved map.transformed_to_original asked room told
WritesRangesOf map (suc zero) asked room told = told ≡ nothing_copied no_value room
WritesRangesOf map (suc (suc zero)) asked room told = WritesMoved map.original_to_transformed asked room told
WritesRangesOf map (suc (suc (suc n))) asked room told = told ≡ nothing_copied no_value room

-- a place that may be absent, for the caller
abbrev pub place_or_none : Option SectionPlace → Place
place_or_none (Some place) = record { offset = place.offset; section = place.section }
place_or_none None = record { offset = 0; section = 0 }

-- the forms for the caller
abbrev pub translation_of : Forms → Translation
translation_of forms = record {
  has_rva = flag (is_some forms.rva);
  rva = unwrap_or forms.rva 0;
  has_section_offset = flag (is_some forms.place);
  section_offset = place_or_none forms.place;
  has_internal_rva = flag (is_some forms.internal_rva);
  internal_rva = unwrap_or forms.internal_rva 0;
  has_internal_section_offset = flag (is_some forms.internal_place);
  internal_section_offset = place_or_none forms.internal_place;
}

-- The forms of an address in the image as it is loaded. `by_table` says of the two in the original image that they are
-- those of the definitions if the sources of the table don't decrease, and that some record of any table gives them.
pub record AreOfRva (map : AddressMapValue) (address : ℕ) (forms : Forms) : Type 0 where
  pub rva : forms.rva ≡ Some address
  pub place : forms.place ≡ space.rva_to_section_offset map address
  pub internal_rva : IsByTable map.transformed_to_original (space.rva_to_internal_rva map address)
      (λ table. MovesSomehow table address) forms.internal_rva
  pub internal_place : IsByTable map.transformed_to_original (space.rva_to_internal_offset map address)
      (ComesSomehow (Some address) (space.internal_rva_to_internal_offset map)) forms.internal_place

-- The forms of a place in a section of the image as it is loaded, as in `AreOfRva`. Without sections of the loaded
-- image the place in the original image is the same.
pub record AreOfPlace (map : AddressMapValue) (given : SectionPlace) (forms : Forms) : Type 0 where
  pub rva : forms.rva ≡ space.section_offset_to_rva map given
  pub place : forms.place ≡ Some given
  pub internal_rva : IsByTable map.transformed_to_original (space.section_offset_to_internal_rva map given)
      (ComesSomehow (space.section_offset_to_rva map given) Some) forms.internal_rva
  pub internal_place : IsByTable map.transformed_to_original (space.section_offset_to_internal_offset map given)
      (λ table result. IfSome map.transformed_sections (λ _.
      ComesSomehow (space.section_offset_to_rva map given) (space.internal_rva_to_internal_offset map) table result))
      forms.internal_place
  pub same : map.transformed_sections ≡ None → forms.internal_place ≡ Some given

-- The forms of an address in the original image.
pub record AreOfInternalRva (map : AddressMapValue) (address : ℕ) (forms : Forms) : Type 0 where
  pub rva : IsByTable map.original_to_transformed (space.internal_rva_to_rva map address)
      (λ table. MovesSomehow table address) forms.rva
  pub place : IsByTable map.original_to_transformed (space.internal_rva_to_section_offset map address)
      (ComesSomehow (Some address) (space.rva_to_section_offset map)) forms.place
  pub internal_rva : forms.internal_rva ≡ Some address
  pub internal_place : forms.internal_place ≡ space.internal_rva_to_internal_offset map address

-- The forms of a place in a section of the original image.
pub record AreOfInternalPlace (map : AddressMapValue) (given : SectionPlace) (forms : Forms) : Type 0 where
  pub rva : IsByTable map.original_to_transformed (space.internal_offset_to_rva map given)
      (ComesSomehow (space.internal_offset_to_internal_rva map given) Some) forms.rva
  pub place : IsByTable map.original_to_transformed (space.internal_offset_to_section_offset map given)
      (λ table result. IfSome map.transformed_sections (λ _.
      ComesSomehow (space.internal_offset_to_internal_rva map given) (space.rva_to_section_offset map) table result))
      forms.place
  pub same : map.transformed_sections ≡ None → forms.place ≡ Some given
  pub internal_rva : forms.internal_rva ≡ space.internal_offset_to_internal_rva map given
  pub internal_place : forms.internal_place ≡ Some given

-- The forms of what is given: 0 is an address and 1 a place in the image as it is loaded, 2 an address and 3 a place in
-- the original one. Of an address the section doesn't count. Other numbers stand for no form.
abbrev pub AreForms : AddressMapValue → ℕ → SectionPlace → Option Forms → Type 0
AreForms map zero given (Some forms) = AreOfRva map given.offset forms
AreForms map (suc zero) given (Some forms) = AreOfPlace map given forms
AreForms map (suc (suc zero)) given (Some forms) = AreOfInternalRva map given.offset forms
AreForms map (suc (suc (suc zero))) given (Some forms) = AreOfInternalPlace map given forms
AreForms map (suc (suc (suc (suc n)))) given None = ⊤
AreForms map form given forms = ⊥

-- These forms are written for the caller; or what is given has no form, and nothing is written.
abbrev pub Translates : AddressMapValue → ℕ → SectionPlace → Translation → Found Translation → Type 0
Translates map form given old told =
    (forms : Option Forms) × AreForms map form given forms
    × (told ≡ value_or_fault no_value old (option_map translation_of forms))
