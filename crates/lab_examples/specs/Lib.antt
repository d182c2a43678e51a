pub mod Ends
pub mod Lessons
pub mod Mended
pub mod Shapes
pub mod Alone
