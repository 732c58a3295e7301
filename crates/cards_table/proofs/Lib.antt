pub mod TableLaws
pub mod SheetLaws
