pub mod Selecting
pub mod Noting
