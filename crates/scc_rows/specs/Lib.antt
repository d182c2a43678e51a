pub mod Rests
pub mod Entrants
pub mod Talkers
pub mod Writers
pub mod Quiet
