pub mod Tables
pub mod Ops
pub mod Standing
pub mod Turns
pub mod Pieces
