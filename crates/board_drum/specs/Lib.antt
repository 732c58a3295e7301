pub mod Areas
pub mod Nearest
