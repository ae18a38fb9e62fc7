pub mod Values
pub mod Rows
pub mod Folder
pub use Rattle.json_text.specs.Compact
