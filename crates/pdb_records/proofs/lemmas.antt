-- Lemmas that crates above use too.
pub mod Agreed
pub mod Whole
