pub mod OrderLemmas
pub mod CallLemmas
pub mod RestLemmas
pub mod LookLemmas
pub mod CallTurns
pub mod EndLemmas
pub mod JoinLemmas
