pub mod Lines
pub mod Needed
pub mod EntryLines
pub mod Reading
pub mod Script
pub mod FieldLemmas
pub mod SummaryCounts
pub mod SummaryDevices
pub mod SummaryHearing
pub mod SummaryUnheard
pub mod SummaryGroups
mod JoinLemmas
