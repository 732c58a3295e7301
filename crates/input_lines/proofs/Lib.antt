pub mod LineLaws
pub mod Cuts
