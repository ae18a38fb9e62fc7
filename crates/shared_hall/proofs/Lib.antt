pub mod Seen
pub mod Passes
pub mod FirstEntries
pub mod Telling
pub mod Keeping
pub mod Judging
