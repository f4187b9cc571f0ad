pub mod Queue
pub mod Merging
pub mod Union
pub mod Counted
