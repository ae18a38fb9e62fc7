mod Lists
mod Entries
mod Closeness
mod Indexing
