pub mod Errors
pub mod Requests
