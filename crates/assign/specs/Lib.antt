pub mod Assignment
pub mod Parts
pub mod Chosen
pub mod Kinds
