pub mod Mesh
pub mod Tables
