pub mod ListLemmas
pub mod NumberLemmas
pub mod LineLemmas
pub mod FaultLemmas
pub mod Stuck
