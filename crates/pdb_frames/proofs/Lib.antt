pub mod Rising
pub mod SearchLemmas
pub mod MergeLemmas
pub mod TableLemmas
pub mod SortLemmas
pub mod LawLemmas
