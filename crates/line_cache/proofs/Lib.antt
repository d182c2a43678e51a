pub mod LineLemmas
pub mod EvictLemmas
pub mod PlaceLemmas
