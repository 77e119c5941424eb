-- What is read of a script so far, and what is summed up of groups. Invariants, and contracts of private calls, cite it.
pub mod Entries
pub mod Sums
pub mod Hearing
