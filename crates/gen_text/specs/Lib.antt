pub mod Numbers
pub mod Geometry
pub mod Texts
pub mod Ended
