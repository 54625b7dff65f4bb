pub mod Answers
pub mod ColumnLists
pub mod Errors
pub mod Grown
pub mod Lines
pub mod Preparing
pub mod Telling
pub mod Zones
