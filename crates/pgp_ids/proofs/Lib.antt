mod SlotLemmas
mod PartLemmas
