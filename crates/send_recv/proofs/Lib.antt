pub mod OtherPort
pub mod Starts
pub mod Looks
pub mod Lines
pub mod Receiving
pub mod Sending
pub mod Posts
pub mod Loops
