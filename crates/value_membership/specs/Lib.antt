pub mod Laws
pub mod Members
pub mod Words
