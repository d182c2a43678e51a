pub mod ChipLaws
pub mod ListLaws
pub mod StepLaws
pub mod WordLaws
