pub mod FieldLaws
pub mod DeckLaws
pub mod Groups
pub mod PartLaws
pub mod SpaceLaws
pub mod CardLaws
pub mod RoundLaws
