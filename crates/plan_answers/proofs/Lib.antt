pub mod PlanLaws
pub mod WordLaws
