pub mod Bytes
pub mod Kept
pub mod Planned
pub mod Taps
