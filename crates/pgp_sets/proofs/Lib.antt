pub mod UpLemmas
pub mod RawSetLemmas
