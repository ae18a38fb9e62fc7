mod Bands
mod Closeness
mod Judgements
mod Lists
mod RowRules
