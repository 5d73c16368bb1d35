pub mod lemmas
pub mod SpellingLemmas
pub mod MultipleLemmas
pub mod NulLemmas
pub mod TextLemmas
pub mod NumericLemmas
pub mod AlignmentLaws
