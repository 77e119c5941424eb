pub mod Lengths
pub mod Fronts
pub mod Views
pub mod Adding
pub mod Puts
pub mod Shares
pub mod Opens
pub mod Refused
