pub mod EntryLaws
pub mod AskLaws
