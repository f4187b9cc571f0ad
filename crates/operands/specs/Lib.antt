pub mod Ruled
pub mod Combined
