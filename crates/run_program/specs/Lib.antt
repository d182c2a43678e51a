pub mod Asking
pub mod Evictors
pub mod History
pub mod Loading
pub mod Program
pub mod Reports
pub mod Runs
pub mod Texts
