pub mod Derived
-- The lemmas on lists of fields that proofs here and in the crates above want. They are public, as
-- those of std are.
pub mod Fields
