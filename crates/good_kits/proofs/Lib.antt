pub mod ConfigLaws
pub mod BuildLaws
