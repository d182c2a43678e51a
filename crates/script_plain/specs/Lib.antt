pub mod Facing
pub mod Matches
pub mod Code
