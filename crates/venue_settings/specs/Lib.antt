pub mod Faults
pub mod Judged
pub mod Keys
pub mod Settings
pub mod Sound
pub mod Table
pub mod Values
pub use Rattle.toml.specs.Data
