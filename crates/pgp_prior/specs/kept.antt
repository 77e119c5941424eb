-- What an index keeps of past intervals. Invariants, and contracts of private calls, cite it.
pub mod KnownStatuses
pub mod JudgedInterval
pub mod KeptLists
pub mod Places
