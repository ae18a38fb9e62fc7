pub mod Restores
pub mod Beginnings
pub mod Restarts
pub mod Judging
pub mod Going
pub mod Ending
