pub mod Outcome
pub mod Scripts
pub mod Texts
