pub mod History
pub mod Told
pub mod Spelled
