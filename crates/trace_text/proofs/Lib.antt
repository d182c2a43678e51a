pub mod GainLemmas
pub mod HeadLemmas
pub mod ProgressLemmas
pub mod RuleLemmas
pub mod SaidLemmas
pub mod StepLemmas
pub mod WalkLemmas
