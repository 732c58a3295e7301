pub mod TableLines
pub mod Bounds
pub mod Pieces
pub mod Whole
