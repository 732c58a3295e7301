pub mod Fields
pub mod Deck
pub mod FieldBytes
