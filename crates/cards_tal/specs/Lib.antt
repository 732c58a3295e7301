pub mod Tal
pub mod Increments
