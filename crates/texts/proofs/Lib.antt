pub mod DecimalLemmas
pub mod PlaceLemmas
