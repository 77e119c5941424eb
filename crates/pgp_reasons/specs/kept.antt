-- How far a search for sets has come. Invariants, and contracts of private calls, cite it.
pub mod Looks
pub mod Shape
