pub mod AnswerLaws
pub mod CallLaws
pub mod Kept
pub mod CutLaws
pub mod Gathering
pub mod Program
pub mod OneText
