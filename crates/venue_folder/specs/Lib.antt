pub mod Shelves
pub mod AskedFolders
