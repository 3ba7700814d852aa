pub mod RingLaws
pub mod NameLaws
pub mod BoxLaws
pub mod KitLaws
pub mod TurnLaws
pub mod ByteLaws
