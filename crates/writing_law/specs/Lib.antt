pub mod Fit
pub mod Spelled
pub mod Written
