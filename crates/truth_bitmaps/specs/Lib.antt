pub mod Examples
pub mod Truths
