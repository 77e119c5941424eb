-- What a shard keeps beside the entries that it has read. Invariants, and contracts of private calls, cite it.
pub mod OsdFilter
pub mod KeptGroup
pub mod Rows
pub mod Groups
