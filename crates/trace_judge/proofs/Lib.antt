pub mod FollowFacts
pub mod LegalLists
pub mod RefusalFacts
