pub mod Bodies
pub mod Finding
pub mod Judging
pub mod Messages
pub mod Outcomes
pub mod Paths
pub mod Queries
