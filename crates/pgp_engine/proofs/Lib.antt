pub mod FollowerLemmas
pub mod FrontLemmas
pub mod JudgeLemmas
pub mod ReadLemmas
pub mod SubmitLemmas
pub mod WorkLemmas
