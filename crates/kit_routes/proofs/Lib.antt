pub mod KitLaws
pub mod ModelLaws
pub mod FaultLaws
pub mod TapsFreeLaws
pub mod GoodLaws
