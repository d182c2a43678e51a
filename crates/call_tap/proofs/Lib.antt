pub mod ByteLaws
pub mod PlannedLaws
pub mod TapLaws
