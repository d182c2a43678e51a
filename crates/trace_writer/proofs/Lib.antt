pub mod RunLaws
pub mod DeskLaws
pub mod RangeLaws
pub mod WritingLaws
pub mod LineLaws
