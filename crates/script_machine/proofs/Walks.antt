-- A rank's walk through a script: its place, its open repeats, and its marks.
pub mod WalkLaws
pub mod DepthLaws
pub mod IdleLaws
pub mod MarkLaws
pub mod FlatLaws
pub mod UnrolledLaws
pub mod StandLaws
