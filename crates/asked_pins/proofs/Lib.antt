pub mod DemandedLaws
pub mod AskedLaws
pub mod SameLaws
pub mod DrawnLaws
pub mod ChannelLaws
