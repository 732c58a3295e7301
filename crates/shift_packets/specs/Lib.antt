pub mod Texts
pub mod OnLists
