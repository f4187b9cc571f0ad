pub mod Refusals
pub mod Members
pub mod Roll
pub mod Merges
pub mod Answers
