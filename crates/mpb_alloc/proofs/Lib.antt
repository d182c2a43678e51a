pub mod RunLemmas
pub mod WalkLemmas
pub mod HeapLemmas
