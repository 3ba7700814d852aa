pub mod PlanAnswers
pub mod WordAnswers
