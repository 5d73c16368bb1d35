pub mod Words
pub mod Lines
pub mod Printed
pub mod Channels
