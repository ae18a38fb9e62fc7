pub mod Values
pub mod Position
pub mod Figure
pub mod Geometry
pub mod Reading
pub mod Laws
pub mod Numbers
