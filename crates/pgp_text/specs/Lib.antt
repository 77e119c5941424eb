pub mod Json
pub mod Answered
pub mod LineRefusal
pub mod Asked
pub mod Reply
pub mod Written
pub mod Versions
pub mod WorkedReplies
