pub mod Shard
pub mod World
pub mod WorldRun
pub mod Running
pub mod kept
pub mod Examples
