pub mod Rallies
pub mod GivingUp
