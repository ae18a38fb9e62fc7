pub mod Rules
pub mod Banding
pub mod Holders
pub mod Judging
