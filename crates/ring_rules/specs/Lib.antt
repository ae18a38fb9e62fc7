pub mod Bounds
pub mod Rings
pub mod Judged
pub mod Rules
pub mod Findings
