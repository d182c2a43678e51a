pub mod Runs
pub mod Orders
pub mod Messages
pub mod OwnWays
pub mod ProgramLengths
pub mod Collectives
pub mod Arrivals
