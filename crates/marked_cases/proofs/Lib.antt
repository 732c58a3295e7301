pub mod Computed
pub mod MovingParts
pub mod Moving
pub mod CasesProof
