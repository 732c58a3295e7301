pub mod Trn
pub mod Transfers
