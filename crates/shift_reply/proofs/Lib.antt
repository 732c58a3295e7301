pub mod ReplyLaws
pub mod FollowedLaws
pub mod OneReply
