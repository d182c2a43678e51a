pub mod PremiseLemmas
pub mod StatusLemmas
