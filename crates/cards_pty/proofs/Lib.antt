pub mod PriorityLaws
pub mod PtyLaws
