pub mod LevelLaws
pub mod SpanLaws
pub mod RailShapeLaws
pub mod BarLaws
pub mod RailDemandLaws
pub mod RowBarLaws
pub mod UprightBarLaws
pub mod SupplyLaws
