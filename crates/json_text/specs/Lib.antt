pub mod Compact
pub mod Drafts
pub mod Runs
