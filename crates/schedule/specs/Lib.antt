pub mod Calls
pub mod ByIndex
