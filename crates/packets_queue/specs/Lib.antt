pub mod Padded
pub mod Keeping
