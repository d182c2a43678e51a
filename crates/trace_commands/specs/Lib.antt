pub mod Again
pub mod Commands
