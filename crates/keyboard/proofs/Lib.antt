pub mod MessageLaws
pub mod ReadBack
