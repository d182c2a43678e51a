pub mod DeliveryLemmas
pub mod PromiseLemmas
pub mod ReadingLemmas
pub mod StatusLemmas
