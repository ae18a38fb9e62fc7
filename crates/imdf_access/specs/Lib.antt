pub mod Access
pub mod Categories
pub mod Parts
pub mod Profiles
pub mod Table
