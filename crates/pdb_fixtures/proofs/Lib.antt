pub mod Constants
pub mod Pages
