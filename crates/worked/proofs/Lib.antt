pub mod Runs
pub mod Held
pub mod Counts
pub mod Xors
