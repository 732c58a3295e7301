pub mod TalLaws
pub mod TalRound
