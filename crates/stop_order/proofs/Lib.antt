pub mod Bits
pub mod Ways
pub mod NextLemmas
pub mod LegLemmas
pub mod TableLemmas
pub mod Turns
pub mod OrderLemmas
