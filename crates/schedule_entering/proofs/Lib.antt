pub mod Clashes
pub mod Headings
pub mod Judging
pub mod Placing
pub mod OneOutcome
