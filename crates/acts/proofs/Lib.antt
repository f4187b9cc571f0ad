pub mod Filled
pub mod Handed
