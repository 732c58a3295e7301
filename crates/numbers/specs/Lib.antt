pub mod Quoted
pub mod Limits
pub mod Kinds
pub mod Refusals
pub mod Decides
pub mod Values
pub mod Elements
pub mod Bits
