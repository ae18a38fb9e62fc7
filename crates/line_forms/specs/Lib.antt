pub mod Lines
pub mod Fronts
pub mod Faults
pub mod Plain
pub mod Behind
