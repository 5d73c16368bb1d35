-- Where addresses lie in the sections of an image. Sections are numbered from 1.
use Rattle.std.specs.Prelude.{ℕ, ◌+◌, ◌-◌, ◌==◌, Bool, nat_lt, nat_le, if◌then◌else◌, List, find, take_while, slice_get}
use Rattle.std.specs.Prelude.{Option, Some, None}
use Rattle.std.specs.List.{enumerate_from}
use Rattle.pdb_space.specs.declared.section_header.ImageSectionHeader.{ImageSectionHeader}
use Rattle.pdb_space.specs.Sum.{if_fits_32_bits}
use Rattle.pdb_space.specs.SectionPlace.{SectionPlace}
use Rattle.pdb_space.specs.Steps.{◌>>=◌}

-- whether the section begins at or below the address
abbrev pub begins_by : ℕ → ImageSectionHeader → Bool
begins_by address section = nat_le section.virtual_address address

-- whether the address is less far from the section's start than the section has bytes in the file
abbrev pub reaches : ℕ → ImageSectionHeader → Bool
reaches address section = nat_lt (address - section.virtual_address) section.size_of_raw_data

-- the place of an address in a section of this number, which must fit in 16 bits
abbrev pub place_in : ℕ → ℕ × ImageSectionHeader → Option SectionPlace
place_in address section =
    if nat_le section.0 0xffff then Some (record
    { section = section.0; offset = address - section.1.virtual_address }) else None

-- The place of an address in sections that are numbered from `first` on: it is in the first section that
-- reaches the address, unless that section or one before it begins above the address.
unfoldable pub section_from : ℕ → List ImageSectionHeader → ℕ → Option SectionPlace
section_from first sections address = do
  section ← find (λ numbered. reaches address numbered.1)
      (enumerate_from first (take_while (begins_by address) sections))
  place_in address section

-- the place of an address among all sections
abbrev pub section_of : List ImageSectionHeader → ℕ → Option SectionPlace
section_of sections address = section_from 1 sections address

-- the section with this number; 0 is no section
abbrev pub section_numbered : List ImageSectionHeader → ℕ → Option ImageSectionHeader
section_numbered sections number = if number == 0 then None else slice_get sections (number - 1)

-- The address of a place: the start of its section plus the offset, if that fits in 32 bits. The size
-- of the section doesn't matter.
unfoldable pub address_of : List ImageSectionHeader → SectionPlace → Option ℕ
address_of sections place = do
  section ← section_numbered sections place.section
  if_fits_32_bits (section.virtual_address + place.offset)
