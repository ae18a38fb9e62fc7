pub mod Rows
pub mod Named
pub mod Figures
pub mod Sound
pub mod Entries
pub mod Indexes
