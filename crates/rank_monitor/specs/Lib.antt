pub mod Following
pub mod Held
pub mod Next
pub mod Noted
pub mod Standing
pub mod Steps
pub mod Uses
