pub mod BoundsLemmas
pub mod EdgeLemmas
pub mod FitLemmas
pub mod FindingLemmas
pub mod FolderLemmas
mod SpreadLemmas
