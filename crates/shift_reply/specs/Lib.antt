pub mod Replies
pub mod Followed
