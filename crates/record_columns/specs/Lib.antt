pub mod Columns
pub mod Kinds
pub mod Refused
pub mod Rows
pub mod Values
pub mod Words
