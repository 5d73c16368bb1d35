mod SizeLemmas
pub mod TypeLemmas
pub mod FinderLemmas
