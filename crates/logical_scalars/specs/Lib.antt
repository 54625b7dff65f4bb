pub mod Stored
pub mod TypeShapes
