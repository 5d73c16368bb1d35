pub mod lemmas
pub mod PrimitiveLemmas
