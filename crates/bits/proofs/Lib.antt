pub mod Laws
pub mod Low
pub mod Cut
pub mod Listed
pub mod Marks
pub mod Totals
pub mod Ones
pub mod Weights
