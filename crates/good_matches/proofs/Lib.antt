pub mod SourceLaws
pub mod WindowLaws
pub mod JoinedLaws
pub mod MatchLaws
