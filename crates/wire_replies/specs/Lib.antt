pub mod Bodies
pub mod Heads
pub mod Names
pub mod Replies
pub mod Tokens
pub mod Statuses
