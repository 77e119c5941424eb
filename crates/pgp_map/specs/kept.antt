-- What is found wrong with an incremental, and the room that a map needs to take it. Invariants, and contracts of private calls, cite it.
pub mod Room
pub mod Findings
