pub mod Span
pub mod FrameNumbers
pub mod Stored
pub mod Frames
pub mod Merge
pub mod Table
pub mod Laws
-- definitions of lower libraries that the contracts of this one use
pub use Rattle.pdb_base.specs.Refusal
pub use Rattle.pdb_base.specs.Answer
pub use Rattle.pdb_base.specs.Reading
pub use Rattle.pdb_base.specs.Bits
pub use Rattle.pdb_base.specs.Bits
