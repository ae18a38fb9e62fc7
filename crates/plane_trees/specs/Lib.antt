pub mod Line
pub mod Octagons
pub mod Trees
pub mod Groves
