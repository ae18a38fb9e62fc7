pub mod Lists
pub mod EntryLemmas
pub mod FlagLemmas
pub mod RowLemmas
pub mod EnoughLemmas
pub mod AnswerLemmas
