pub mod Entries
pub mod Rule
