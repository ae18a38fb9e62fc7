pub mod Cutting
pub mod Laws
pub mod Number
pub mod Rounding
pub mod Text
pub mod Value
