-- Barriers: the flags of a group, the counts of its root, and what each move of a barrier adds to the calls.
pub mod BarrierFacts
pub mod BarrierMoves
pub mod GroupRanks
pub mod GroupLaw
pub mod GatherFacts
pub mod EntryCalls
pub mod ReleaseCalls
pub mod BarrierCalls
pub mod BarrierLaw
