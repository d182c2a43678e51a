pub mod PlanLemmas
pub mod CoreLaws
pub mod TextLaws
