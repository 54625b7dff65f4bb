pub mod BoundExamples
pub mod Increments
pub mod Laws
pub mod Strings
pub mod Texts
pub mod Truncation
pub mod Words
