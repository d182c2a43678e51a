-- Messages of pairs of ranks: they arrive as they were sent; and what a rank waits for that is held up.
pub mod MessageLaws
pub mod KeptLaws
pub mod RestLaws
pub mod HeldUpLaws
