pub mod PutLaws
pub mod CheckLaws
pub mod Back
pub mod Again
