pub mod FirstDot
pub mod LinkParts
