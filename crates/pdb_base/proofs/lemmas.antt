-- The lemmas that proofs here and in the crates above want again and again: on answers, bytes, records, counts
-- and searches by halving. They are public, as those of std are.
pub mod BitFields
pub mod Collected
pub mod Count
pub mod Derived
pub mod Front
pub mod Halving
pub mod Numeric
pub mod Padding
pub mod Reading
pub mod Records
pub mod Refused
pub mod Rules
pub mod Shifts
pub mod Spelling
