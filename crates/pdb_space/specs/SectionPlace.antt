-- A place in a section of an image, and how two places compare.
use Rattle.std.specs.Prelude.{ℕ, ◌==◌, List, Option, Some, None, Ok, if◌then◌else◌}
use Rattle.std.specs.declared.cmp.Ordering.{Ordering}
use Rattle.std.specs.Ordering.{nat_cmp}
use Rattle.pdb_base.specs.Answer.{Answer, ◌>>=◌}
use Rattle.pdb_base.specs.Reading.{number_at}

-- A section is given by its number from 1 on, and 0 is no section. The offset is in bytes from its start.
pub record SectionPlace : Type 0 where
  pub section : ℕ
  pub offset : ℕ

-- the place at another offset of the same section
abbrev pub at_offset : SectionPlace → ℕ → SectionPlace
at_offset place offset = record place { offset = offset }

-- Places in the same section compare by their offsets; places in different sections don't compare.
abbrev pub order_within_section : SectionPlace → SectionPlace → Option Ordering
order_within_section a b = if a.section == b.section then Some (nat_cmp a.offset b.offset) else None

-- a place as it is stored: a u32 offset, and then a u16 section
unfoldable pub section_place_at : List ℕ → Answer (SectionPlace × List ℕ)
section_place_at bytes = do
  offset ← number_at 4 bytes
  section ← number_at 2 offset.1
  Ok (record { section = section.0; offset = offset.0 }, section.1)
