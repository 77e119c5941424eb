-- What the writer, a tap and a feed in the making hold. Invariants, and contracts of private calls, cite it.
pub mod Seats
pub mod Supplies
pub mod Puts
