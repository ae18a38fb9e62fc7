pub mod Figures
pub mod Fields
pub mod Rows
pub mod Folder
pub mod Laws
pub mod Lossy
pub mod Defaults
