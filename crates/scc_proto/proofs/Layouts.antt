-- The two layouts of a chunk buffer: what each word is for, and which move an event at it is.
pub mod Roles
pub mod MoveFacts
pub mod PlaceMoves
pub mod ViewStores
pub mod LayoutLoads
pub mod LayoutLaw
