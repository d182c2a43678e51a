-- The step, and runs of it: what is left to do after each step, a run seen through a view, and the plain meaning.
pub mod Costs
pub mod StepLaws
pub mod RunLaws
pub mod ViewLaws
pub mod PlainLaws
