pub mod SoundProof
pub mod StandingLaws
pub mod ScheduleLaws
pub mod PlaceLaws
pub mod StepLaws
pub mod AgreementProof
