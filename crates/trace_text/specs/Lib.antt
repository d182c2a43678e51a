pub mod Grammar
pub mod Heads
pub mod Kinds
pub mod Progress
pub mod Traces
pub mod Views
pub mod Walks
pub mod Words
