pub mod Messages
pub mod Typed
