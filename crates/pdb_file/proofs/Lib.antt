pub mod CutLemmas
pub mod HeaderLemmas
pub mod DbiLaws
pub mod RoleLaws
pub mod NameEndLemmas
pub mod NamedLaws
pub mod FeatureLemmas
pub mod FeatureLaws
pub mod FaultLaws
mod ImageLemmas
