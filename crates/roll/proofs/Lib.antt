pub mod Any
pub mod Counts
