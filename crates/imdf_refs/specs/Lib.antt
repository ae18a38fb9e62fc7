pub mod References
pub mod Rules
pub mod Laws
pub mod Index
pub mod Gathering
