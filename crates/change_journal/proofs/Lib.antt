mod Tears
mod Runs
mod Steps
mod Closing
mod Opening
mod Writing
mod Putting
pub mod ReadBack
mod Recorded
mod Holding
mod Unique
mod Kept
mod Damage
mod Looking
mod Parsing
mod Numbers
