pub mod DiffLemmas
pub mod ValidateLemmas
pub mod WrittenLemmas
