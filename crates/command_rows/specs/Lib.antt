pub mod LineCount
