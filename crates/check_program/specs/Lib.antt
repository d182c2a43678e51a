pub mod Waiting
pub mod Texts
pub mod Program
pub mod Reports
pub mod Statuses
