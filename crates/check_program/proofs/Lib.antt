pub mod WaitingLaws
pub mod CycleLaws
pub mod CauseLaws
pub mod StatusLaws
