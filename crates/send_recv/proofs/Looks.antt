-- Flags: looks at them, changes of them, and the tries at a flag's register.
pub mod SignalFlags
pub mod TryLemmas
pub mod LookLemmas
pub mod ChangeLemmas
pub mod ChangeFacts
pub mod FlagMoves
