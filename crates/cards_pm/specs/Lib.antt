pub mod Pm
pub mod Sheets
