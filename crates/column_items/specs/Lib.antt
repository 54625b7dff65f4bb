pub mod Codes
pub mod Items
pub mod Numbers
pub mod Words
