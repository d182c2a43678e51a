pub mod TeamLemmas
