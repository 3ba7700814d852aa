pub mod OneReplyLaws
mod GoodLaws
