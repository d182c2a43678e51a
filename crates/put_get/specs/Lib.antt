pub mod Accesses
pub mod Answers
pub mod Cores
pub mod Transfers
pub mod HeapStores
