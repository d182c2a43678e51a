mod Examples
pub mod HostLemmas
pub mod ScanLemmas
pub mod ScriptLemmas
