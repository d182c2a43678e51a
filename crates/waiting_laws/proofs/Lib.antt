pub mod FailedSteps
pub mod Looks
pub mod Messages
pub mod Waited
