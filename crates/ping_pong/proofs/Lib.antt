pub mod RallyLemmas
pub mod GivingUpLemmas
