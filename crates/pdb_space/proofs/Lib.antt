pub mod StringTableLemmas
pub mod NameLemmas
pub mod RangeLemmas
pub mod RecordLemmas
pub mod OrderLemmas
pub mod SectionLemmas
pub mod SearchLemmas
pub mod lemmas
