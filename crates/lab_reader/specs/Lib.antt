pub mod Cuts
pub mod Faults
pub mod Places
pub mod Reading
pub mod Said
pub mod Words
