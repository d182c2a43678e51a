pub mod Cores
pub mod Texts
pub mod Program
pub mod Jobs
pub mod Reports
