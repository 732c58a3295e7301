pub mod MeantLaws
pub mod ToldLaws
pub mod Reaching
pub mod One
pub mod SpelledProof
