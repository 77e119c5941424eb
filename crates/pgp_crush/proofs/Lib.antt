pub mod TreeLemmas
pub mod DescentLemmas
pub mod FirstNLemmas
pub mod IndepLemmas
pub mod FaultLemmas
pub mod LeastLemmas
pub mod ReachLemmas
pub mod ChoiceLemmas
pub mod PlacementLemmas
pub mod FewerInLemmas
mod LogarithmLemmas
