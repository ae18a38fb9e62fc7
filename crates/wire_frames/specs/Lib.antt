pub mod Fields
pub mod Frames
pub mod Heads
pub mod Lines
pub mod Outcomes
pub mod Reading
