pub mod Counting
pub mod Lines
pub mod Bounds
