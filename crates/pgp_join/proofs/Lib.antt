pub mod MapLemmas
pub mod ViewLemmas
pub mod StepLemmas
pub mod FollowLemmas
pub mod AnswerLemmas
pub mod PassedLemmas
mod BoundLemmas
mod Same
mod SameLemmas
mod CheckLemmas
