pub mod Flags
pub mod Stages
pub mod Turns
pub mod Calls
