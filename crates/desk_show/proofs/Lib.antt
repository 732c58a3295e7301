pub mod SeekLaws
pub mod IdLaws
pub mod PartLaws
pub mod Unique
pub mod Own
