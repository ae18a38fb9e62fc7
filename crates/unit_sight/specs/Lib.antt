pub mod Joined
pub mod Tables
pub mod Rooms
pub mod Words
pub mod Finding
pub mod Nearest
