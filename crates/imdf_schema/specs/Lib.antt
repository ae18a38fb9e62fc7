pub mod Values
pub mod Properties
pub mod Forms
pub mod Items
pub mod Contents
pub mod Names
pub mod Rules
pub mod Places
