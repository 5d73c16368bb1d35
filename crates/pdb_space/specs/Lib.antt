pub mod Sum
pub mod SectionPlace
pub mod SectionOrder
pub mod Omap
pub mod Ranges
pub mod SectionHeader
pub mod SectionFlags
pub mod Steps
pub mod Sections
pub mod Conversions
pub mod Laws
pub mod StringTable
pub mod StringTableLaws
-- definitions of lower libraries that the contracts of this one use
pub use Rattle.pdb_base.specs.ErrorText
pub use Rattle.pdb_base.specs.Endian
