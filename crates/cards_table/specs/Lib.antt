pub mod Table
pub mod TableText
