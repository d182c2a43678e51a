pub mod DigitLemmas
pub mod EndLemmas
pub mod FileLemmas
pub mod MemoryLemmas
pub mod ReadingLemmas
pub mod SendingLemmas
