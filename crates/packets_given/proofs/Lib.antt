pub mod SameLaws
pub mod Reckoning
pub mod UnderWay
pub mod HeadLaws
pub mod GivenProof
pub mod DrumProof
pub mod OwnLaws
