pub mod SplitLaws
pub mod FormLaws
