pub mod OrderLaws
pub mod ListLaws
pub mod Reachable
