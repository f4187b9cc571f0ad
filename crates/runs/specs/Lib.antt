pub mod Asks
pub mod Memory
pub mod SameAsks
