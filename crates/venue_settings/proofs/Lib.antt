pub mod Least
pub mod Lists
pub mod Names
pub mod Phases
pub mod Whole
