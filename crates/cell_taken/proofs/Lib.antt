pub mod TakenLaws
pub mod Loops
