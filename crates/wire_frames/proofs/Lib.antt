pub mod HeadLemmas
pub mod EndLemmas
pub mod LineLemmas
pub mod FrontLemmas
pub mod LawLemmas
pub mod FieldLemmas
pub mod PartLemmas
pub mod FrameLemmas
