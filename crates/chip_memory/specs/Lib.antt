pub mod Chips
pub mod Steps
