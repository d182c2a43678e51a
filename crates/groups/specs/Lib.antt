pub mod Collectives
pub mod Folds
pub mod Peers
