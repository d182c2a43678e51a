pub mod FillLemmas
pub mod Choices
pub mod Walks
pub mod ProgramLengths
pub mod StoppedLaws
