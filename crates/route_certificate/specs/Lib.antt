pub mod Forms
pub mod Fronts
pub mod Prices
pub mod Following
pub mod Answers
pub mod AnswerFronts
pub mod Verdicts
