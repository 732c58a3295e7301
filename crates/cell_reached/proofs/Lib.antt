pub mod Fitting
pub mod ReachedProof
