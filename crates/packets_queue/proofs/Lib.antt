pub mod PaddedLaws
pub mod Relist
pub mod Startable
