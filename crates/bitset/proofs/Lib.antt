pub mod Over
pub mod Digits
pub mod Calls
pub mod Words
pub mod Kept
