pub mod AwayPlayers
pub mod CollMembers
pub mod Rings
