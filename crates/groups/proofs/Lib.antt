pub mod FoldLemmas
pub mod StepLemmas
pub mod PeerLaws
