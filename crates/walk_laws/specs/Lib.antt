pub mod Views
pub mod Walks
pub mod Certificates
pub mod Reaches
