pub mod KeywordLaws
pub mod NearestLaws
pub mod PlanLaws
pub mod KeyLaws
pub mod OnePlan
