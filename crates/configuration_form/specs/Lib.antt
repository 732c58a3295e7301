pub mod Form
pub mod Means
