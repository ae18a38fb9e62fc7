pub mod Fronts
pub mod Adding
pub mod Steps
pub mod Queued
pub mod Standing
pub mod Resumes
pub use Rattle.venue_state.proofs.Entering
