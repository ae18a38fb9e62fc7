pub mod Texts
pub mod Tags
pub mod LabelLists
pub mod Billionths
pub mod Shown
pub mod Moved
