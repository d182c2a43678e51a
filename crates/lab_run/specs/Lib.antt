pub mod Evicting
pub mod Accesses
pub mod Turns
pub mod Loads
pub mod Stands
pub mod Benches
pub mod CoreCalls
pub mod RegisterCalls
