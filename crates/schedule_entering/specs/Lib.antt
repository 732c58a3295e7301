pub mod Entering
pub mod Outlines
