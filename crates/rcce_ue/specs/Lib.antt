pub mod Ues
pub mod Passing
pub mod Standing
pub mod Left
pub mod Turns
pub mod Bounds
pub mod Batches
pub mod Workers
