pub mod GatheringLaws
pub mod DeckLaws
