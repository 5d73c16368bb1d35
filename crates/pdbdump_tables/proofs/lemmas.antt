-- The lemmas on what is read of a source, which the proofs of the crates above want too. They are public, as those of
-- std are.
pub mod Listed
pub mod Reading
