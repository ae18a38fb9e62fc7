pub mod Order
pub mod Reports
pub mod Passes
