pub mod TraceLaws
pub mod WordLaws
pub mod StatusLaws
