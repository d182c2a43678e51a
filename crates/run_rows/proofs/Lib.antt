pub mod OpLemmas
pub mod RunnerLemmas
pub mod RingLemmas
