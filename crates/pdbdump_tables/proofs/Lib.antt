pub mod ListingLemmas
pub mod ShownLemmas
pub mod TableLemmas
pub mod ListedLemmas
pub mod lemmas
