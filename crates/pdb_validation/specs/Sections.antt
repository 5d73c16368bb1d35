-- Sections ascend by their virtual addresses, and none begins below the end of the one before it (the Portable
-- Executable specification).
use Rattle.std.specs.Prelude.{ℕ, ◌+◌, nat_lt, List, [], ◌∷◌, ◌++◌, Option, Some, None}
use Rattle.std.specs.Bool.{then_some}
use Rattle.std.specs.Option.{option_to_list}
use Rattle.pdb_space.specs.declared.section_header.ImageSectionHeader.{ImageSectionHeader}
use Rattle.pdb_validation.specs.declared.inconsistency.Inconsistency.TheVariants.{SectionsOverlap}
use Rattle.pdb_validation.specs.declared.mismatch.Mismatch.{Mismatch}

-- the mismatch of a section that begins at an address below `least`, at a place of the list in a stream
abbrev pub section_mismatch : ℕ → ℕ → ℕ → ℕ → Option Mismatch
section_mismatch stream least place address =
    then_some (nat_lt address least)
    (record { stream = Some stream; index = Some place; byte = None; what = SectionsOverlap })

-- The sections that begin below the end of the one before them. The first begins at or above `least`, and has that
-- place.
abbrev pub section_mismatches : ℕ → ℕ → ℕ → List ImageSectionHeader → List Mismatch
section_mismatches stream least place [] = []
section_mismatches stream least place (section ∷ sections) =
    option_to_list (section_mismatch stream least place section.virtual_address)
    ++ section_mismatches stream (section.virtual_address + section.virtual_size) (place + 1) sections
