pub mod PartsLaws
pub mod KindLaws
pub mod InCellLaws
