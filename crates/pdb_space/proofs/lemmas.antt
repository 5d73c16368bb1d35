-- Lemmas that crates above use too.
pub mod Faults
