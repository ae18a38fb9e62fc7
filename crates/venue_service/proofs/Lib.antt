pub mod Halls
pub mod Moving
