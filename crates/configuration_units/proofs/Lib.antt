pub mod FreshLaws
pub mod Filling
