-- How what an engine keeps follows the log. Invariants, and contracts of private calls, cite it.
pub mod Followers
pub mod Members
