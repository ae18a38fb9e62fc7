pub mod WalkLemmas
pub mod Theorems
pub mod Potentials
pub mod Nodes
pub mod Reaches
