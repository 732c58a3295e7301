pub mod FurtherLaws
pub mod Elements
pub mod Fourteen
