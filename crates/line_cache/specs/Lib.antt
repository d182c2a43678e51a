pub mod Eviction
pub mod Choices
pub mod Lines
