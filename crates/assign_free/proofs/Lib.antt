pub mod AssignableLaws
pub mod Computed
