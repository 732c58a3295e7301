pub mod Choice
pub mod Greedy
