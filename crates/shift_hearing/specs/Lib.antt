pub mod Hearing
pub mod Behind
