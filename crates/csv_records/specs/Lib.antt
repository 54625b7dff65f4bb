pub mod Rows
pub mod Records
pub mod Examples
pub mod Fields
pub mod Laws
pub mod Lemmas
pub mod Words
