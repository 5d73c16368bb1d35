-- What users of this crate are proved of: lines that are written field by field. They are public, as those of std are.
pub mod Line
pub mod Rows
pub mod Sink
