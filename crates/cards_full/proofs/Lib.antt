pub mod Round
pub mod Kept
pub mod WriteLaws
pub mod FurtherPut
pub mod FullHeld
