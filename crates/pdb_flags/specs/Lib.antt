pub mod PointerNumbers
pub mod TypeProperties
pub mod FieldAttributes
pub mod FunctionAttributes
pub mod PointerAttributes
pub mod Laws
-- definitions of lower libraries that the contracts of this one use
pub use Rattle.pdb_base.specs.Bits
pub use Rattle.pdb_base.specs.Bits
