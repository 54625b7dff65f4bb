pub mod Examples
pub mod FilterWords
pub mod Masks
pub mod Members
pub mod Needles
pub mod Rows
pub mod Truths
pub mod Words
