mod Outcomes
mod PhaseLemmas
mod Venues
mod Planes
mod Grounds
mod Noting
mod Builds
mod FirstRows
mod PlaceRanges
mod FewPlaces
mod Sizes
pub mod Silent
