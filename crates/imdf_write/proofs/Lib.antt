pub mod Degrees
pub mod Identifiers
pub mod Lists
pub mod Pieces
