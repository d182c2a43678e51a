pub mod CommandLine
pub mod Cores
pub mod FaultTexts
pub mod HostFile
pub mod ScriptFiles
pub mod ScriptWords
pub mod Setups
