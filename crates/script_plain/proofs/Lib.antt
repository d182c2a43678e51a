pub mod CodeSteps
pub mod WayLaws
pub mod StartLaws
pub mod FacingLaws
pub mod MatchLaws
