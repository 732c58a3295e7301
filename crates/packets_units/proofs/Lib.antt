pub mod HandedLaws
