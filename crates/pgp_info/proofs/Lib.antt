pub mod BestLemmas
pub mod PutLemmas
pub mod SameInfos
pub mod StartLemmas
pub mod LeadLemmas
