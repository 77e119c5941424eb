pub mod EntryLemmas
pub mod LastLemmas
pub mod Lists
pub mod LogLemmas
pub mod MissingLemmas
pub mod NumberLemmas
