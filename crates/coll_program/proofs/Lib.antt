pub mod TeamLemmas
pub mod TextLemmas
pub mod RunLemmas
