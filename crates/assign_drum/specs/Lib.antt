pub mod Drum
pub mod Blocks
