pub mod FaultLemmas
pub mod Tokens
pub mod Versions
