pub mod Jobs
pub mod Texts
pub mod Program
pub mod Pieces
pub mod Reports
pub mod History
pub mod Runs
