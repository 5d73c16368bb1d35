-- The lemmas on sources and on faults that proofs here and in the crates above want. They are public, as those of std
-- are.
pub mod Faults
pub mod Front
pub mod Kept
pub mod Outside
