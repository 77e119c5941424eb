pub mod Last
pub mod Log
pub mod Missing
pub mod Kept
pub mod Examples
