-- Lines of a buffer: the reads of noted words, the words that a sender has drafted, and the bytes that a receiver puts.
pub mod LineReads
pub mod NotedReads
pub mod Sources
pub mod Puts
pub mod DraftNone
pub mod DraftNotes
pub mod DraftWhole
pub mod WaitingOut
