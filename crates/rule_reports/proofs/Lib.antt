pub mod Orders
pub mod Members
pub mod Passes
pub mod Adding
pub mod Unique
pub mod Phases
pub mod Sorting
pub mod Beginnings
