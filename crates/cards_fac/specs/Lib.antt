pub mod Fac
