pub mod TurnLaws
pub mod OneTurn
