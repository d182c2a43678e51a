pub mod Flags
pub mod Tries
pub mod Looks
pub mod Writes
pub mod Turns
