-- The lengths of registers that the reader reckoned, and that each call that a rank comes to can be made.
pub mod LengthPaths
pub mod LengthPrograms
pub mod LengthLaws
pub mod ReadyLemmas
