pub mod Status
pub mod StatusLaws
pub mod Sets
pub mod Examples
pub mod Worked
