-- The turns of a send, by its stages.
pub mod SendWork
pub mod SendFacts
pub mod SendWrites
pub mod SendLines
pub mod SendMoves
pub mod SendWaits
pub mod SendLooks
pub mod SendLowers
pub mod SendRaises
pub mod SendRaiseTurn
pub mod SendEnds
