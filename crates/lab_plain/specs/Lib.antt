pub mod Texts
pub mod Scenes
pub mod Meaning
pub mod Accesses
