-- The definitions that the contracts cite.
pub mod Fields
pub mod Lines
pub mod Numbers
pub mod Words
