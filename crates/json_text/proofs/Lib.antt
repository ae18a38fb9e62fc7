pub mod Drafts
pub mod Runs
mod Strings
mod Spelling
mod Numbers
mod Utf8
