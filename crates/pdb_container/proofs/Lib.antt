pub mod lemmas
pub mod RunLemmas
pub mod ReplyLaws
