pub mod Alike
pub mod Bound
pub mod Text
