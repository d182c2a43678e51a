pub mod Order
pub mod Teams
pub mod Resting
pub mod Workers
