pub mod Hearings
pub mod Jobs
pub mod Legal
pub mod Lists
pub mod NextTexts
pub mod Parts
pub mod Program
pub mod Texts
