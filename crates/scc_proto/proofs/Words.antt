-- The words of the chip: what is noted of them, the bits of a flags word, and that after each step they agree with the records.
pub mod MemoryLemmas
pub mod NoteFacts
pub mod WordFacts
pub mod FlagBits
pub mod FlagsTold
pub mod HeapLaw
pub mod RegisterLaw
pub mod WordLaw
