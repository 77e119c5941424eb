pub mod DeviceLemmas
pub mod WeightLemmas
pub mod FaultLemmas
pub mod MapLemmas
pub mod NumberSetLemmas
pub mod RepeatLemmas
pub mod CheckLemmas
pub mod CheckedLemmas
mod Same
pub mod AlikeLemmas
