-- Who came to a collective call, counted by its messages.
pub mod MessageCounts
pub mod StatementSends
pub mod FoundCalls
pub mod CountLaws
pub mod CameLemmas
pub mod OthersCame
