pub mod CoreLaws
pub mod Computed
pub mod Ranges
