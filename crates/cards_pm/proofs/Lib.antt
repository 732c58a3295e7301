pub mod PmLaws
pub mod PmReadBack
pub mod PmAgain
