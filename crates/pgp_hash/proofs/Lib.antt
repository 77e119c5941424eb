pub mod Blocks
pub mod Exponents
pub mod StableModLemmas
