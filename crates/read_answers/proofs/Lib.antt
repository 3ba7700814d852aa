mod KeyLaws
pub mod TechLaws
pub mod ConfigLaws
pub mod GoodLaws
