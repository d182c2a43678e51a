pub mod Loggers
pub mod LogRuns
pub mod Sizes
