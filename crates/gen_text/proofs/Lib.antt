pub mod Pieces
pub mod EndedLemmas
pub mod FileLemmas
