pub mod Last
pub mod Ordered
pub mod Repeats
pub mod Taken
