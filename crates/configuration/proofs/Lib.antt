pub mod Told
pub mod Within
pub mod Lent
pub mod AnySection
pub mod Turns
pub mod Word
pub mod Whole
