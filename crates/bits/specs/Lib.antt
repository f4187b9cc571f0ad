pub mod Sums
pub mod Bit
pub mod Places
pub mod Indices
