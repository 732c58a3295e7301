pub mod HearingLaws
pub mod PieceLaws
pub mod Loop
