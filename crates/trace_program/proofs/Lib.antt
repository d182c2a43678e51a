pub mod FileLemmas
pub mod HearingLemmas
pub mod LegalLemmas
pub mod PlanLemmas
pub mod RulingLemmas
