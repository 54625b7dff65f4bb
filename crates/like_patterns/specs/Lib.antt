pub mod Patterns
pub mod Characters
pub mod Pieces
pub mod Texts
pub mod Examples
pub mod Reading
pub mod Laws
