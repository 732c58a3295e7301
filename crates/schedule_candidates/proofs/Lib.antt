pub mod CandidateLaws
pub mod MarkingLaws
