pub mod PlanLemmas
pub mod RunPlanLemmas
pub mod LogLemmas
pub mod BackLemmas
