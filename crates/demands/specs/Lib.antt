pub mod Refusing
pub mod Table
pub mod Demands
