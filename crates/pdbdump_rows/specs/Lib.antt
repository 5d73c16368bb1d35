pub mod Row
pub mod Text
pub mod Lines
pub mod Line
pub mod Rows
pub mod Sink
pub mod Sentences
pub mod Laws
