pub mod ChipLemmas
pub mod EvictorLemmas
pub mod LineLemmas
pub mod LoadLemmas
pub mod ReportLemmas
pub mod RunLemmas
pub mod SentLemmas
pub mod ValueLemmas
