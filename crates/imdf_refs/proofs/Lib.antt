mod OwnIds
mod Typed
mod Clean
pub mod FileOrder
pub mod Indexing
pub mod Naming
pub mod Dangling
pub mod Misnaming
