pub mod Together
pub mod Further
