pub mod Fewer
pub mod Room
pub mod Same
