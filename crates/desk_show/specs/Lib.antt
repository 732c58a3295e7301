pub mod Showing
pub mod Seeking
