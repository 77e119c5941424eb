-- How far the answering of a script has come. Invariants, and contracts of private calls, cite it.
pub mod Line
pub mod Input
pub mod Progress
