pub mod HallLaws
pub mod GreedyLaws
pub mod ChoiceLaws
pub mod Loops
pub mod StdWords
