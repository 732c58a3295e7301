pub mod Printing
pub mod Hearing
pub mod Putting
