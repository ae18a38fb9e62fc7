pub mod Limits
pub mod Looks
pub mod Refusals
