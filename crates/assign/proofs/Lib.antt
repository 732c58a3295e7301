pub mod KindsLaws
pub mod FirstLaws
pub mod ChosenLaws
pub mod Computed
pub mod LackingLaws
pub mod Parts
