-- Whole calls: loops over turns, from the start on and from line to line.
pub mod BatchLoop
pub mod RecvLoop
pub mod TestLemmas
pub mod SendLoop
