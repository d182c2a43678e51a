pub mod SeatViews
pub mod Keeping
pub mod Spaces
pub mod AwayRanks
pub mod Scenes
pub mod Turns
