pub mod Coming
pub mod Complaints
pub mod Delivery
pub mod Numbers
pub mod Outcomes
pub mod Plans
pub mod Promises
pub mod Statuses
