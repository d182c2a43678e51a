pub mod Counts
pub mod Faults
pub mod Kept
pub mod Progress
pub mod Reading
pub mod Said
pub mod Words
