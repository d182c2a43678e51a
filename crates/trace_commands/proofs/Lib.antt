pub mod AgainLemmas
pub mod AskedLemmas
