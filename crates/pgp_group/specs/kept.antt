-- What a group keeps of its log, and the parts of a view as it finds them. Invariants, and contracts of private calls, cite it.
pub mod InboxOf
pub mod KeptInfos
pub mod KeptReports
pub mod DeviceFacts
pub mod KeptPrior
pub mod Parts
pub mod KeptNames
