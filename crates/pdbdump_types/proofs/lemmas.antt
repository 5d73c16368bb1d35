-- What callers are proved by: steps of showing what is asked of a table.
pub mod Shown
