pub mod Example
pub mod Bounds
