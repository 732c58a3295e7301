pub mod SpacedLaws
pub mod NumberLaws
pub mod RowLaws
pub mod TableLaws
pub mod KeyLaws
pub mod Meaning
