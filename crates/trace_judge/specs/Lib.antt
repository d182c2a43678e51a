pub mod Followed
pub mod Judged
pub mod Rulings
