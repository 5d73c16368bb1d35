pub mod ComparedLemmas
