pub mod BodyLemmas
pub mod KeyLemmas
pub mod MessageLemmas
pub mod PathLemmas
pub mod RouteLemmas
pub mod StopLemmas
pub mod ValueLemmas
pub mod NumberLemmas
