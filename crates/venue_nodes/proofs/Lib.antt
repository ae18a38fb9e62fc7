pub mod Identifiers
pub mod Nearness
pub mod Boxes
pub mod Places
pub mod Spanned
pub mod Items
pub mod Named
pub mod Limiting
mod Sights
mod Overfull
pub mod Seating
pub mod Judged
pub mod CornerTotals
pub mod Behind
pub mod Placeable
pub mod CornerSteps
pub mod CornerRows
pub mod Counts
pub mod Finding
pub mod Joining
pub mod Assembling
pub mod Spread
pub mod Placed
pub mod Remarks
pub mod Folder
pub mod Once
