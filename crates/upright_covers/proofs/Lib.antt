pub mod BoxLaws
pub mod AtLaws
pub mod ApartLaws
pub mod GapLaws
pub mod ChannelRowLaws
pub mod SecondBoxLaws
pub mod FourthKindLaws
pub mod FourthBoxLaws
