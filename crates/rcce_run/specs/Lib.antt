pub mod Sweep
pub mod Scripts
pub mod Crews
pub mod Examples
pub mod Ues
pub mod UeRuns
pub mod Sent
