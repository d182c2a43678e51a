-- Messages in the lists of calls: what each move of a message adds to them, and messages of two chunks.
pub mod MessageLists
pub mod Growth
pub mod QuietMoves
pub mod ReceiveCalls
pub mod MessageCalls
pub mod MessageLaw
pub mod ChunkRecords
pub mod TwoChunks
