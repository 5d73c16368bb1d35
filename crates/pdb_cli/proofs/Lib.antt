pub mod WordLemmas
pub mod LineLemmas
pub mod InputLemmas
pub mod ChannelLemmas
