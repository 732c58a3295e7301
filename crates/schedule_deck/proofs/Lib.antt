pub mod Enough
pub mod DeckLaws
pub mod Few
pub mod Pieces
pub mod InTurn
pub mod Bounds
