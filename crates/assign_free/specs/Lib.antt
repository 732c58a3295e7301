pub mod Assignable
pub mod Counts
