pub mod Assignable
