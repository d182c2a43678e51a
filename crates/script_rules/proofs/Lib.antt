pub mod AcceptanceLemmas
pub mod BareLemmas
pub mod CheckLemmas
pub mod ClosedLemmas
pub mod EndLemmas
pub mod RuleLemmas
pub mod SettledLemmas
pub mod TallyLemmas
