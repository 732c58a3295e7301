pub mod InScheduleLaws
pub mod IndexLaws
pub mod Full
pub mod Building
pub mod Growing
