pub mod OneReplyLaws
