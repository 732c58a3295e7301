pub mod LineLaws
pub mod Meaning
