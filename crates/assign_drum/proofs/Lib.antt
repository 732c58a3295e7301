pub mod BlocksLaws
pub mod DrumLaws
pub mod Computed
