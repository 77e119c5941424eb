pub mod Needed
pub mod Compacted
pub mod kept
