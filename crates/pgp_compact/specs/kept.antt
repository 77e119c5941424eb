-- What compaction keeps while it reads a log. Invariants, and contracts of private calls, cite it.
pub mod Greatest
pub mod Standing
pub mod Course
pub mod Courses
pub mod Later
pub mod Whole
