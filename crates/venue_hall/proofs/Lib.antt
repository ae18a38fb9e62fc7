mod Answered
mod Changed
mod Sizes
pub mod Standing
