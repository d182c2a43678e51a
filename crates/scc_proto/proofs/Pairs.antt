-- A pair of ranks, of which one sends to the other: its phases, and the moves of both sides.
pub mod PhaseFacts
pub mod OfferFacts
pub mod PairFrames
pub mod SenderLaw
pub mod SenderMoves
pub mod TakerMoves
pub mod PairLaw
