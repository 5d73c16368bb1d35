pub mod DbiHeader
pub mod DebugHeader
pub mod Information
pub mod NameEnds
pub mod StreamNames
pub mod Features
pub mod SectionHeaders
pub mod File
pub mod Laws
pub mod Faults
pub mod Identity
pub mod Key
pub mod Format
pub mod Image
-- definitions of lower libraries that the contracts of this one use
pub use Rattle.pdb_base.specs.Endian
