pub mod DrumBounds
pub mod Bounds
pub mod Example
pub mod Typed
