-- What the code decides and does for a rank: it is the step of the meaning.
pub mod CodeLaws
pub mod UeLaws
pub mod StandLaws
pub mod GroupLaws
pub mod UeViews
