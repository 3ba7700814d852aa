pub mod OrderLaws
pub mod CloseLaws
pub mod TrackLaws
pub mod ListedLaws
pub mod ShapeLaws
pub mod RoutingLaws
pub mod RailLaws
