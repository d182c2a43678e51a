-- Legal lists of calls: their steps in any order, and what they say of messages.
pub mod CallTests
pub mod StepLaws
pub mod StepDecided
pub mod LegalLaws
pub mod LegalMessages
pub mod LegalExamples
