pub mod SelectingLaws
pub mod Walk
