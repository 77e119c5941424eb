pub mod Enough
pub mod Parts
pub mod AnyCode
pub mod Pool
