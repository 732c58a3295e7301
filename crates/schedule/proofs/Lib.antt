pub mod ByIndexLaws
pub mod Cases
