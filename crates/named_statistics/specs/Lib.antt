pub mod Examples
pub mod Heads
pub mod Laws
pub mod Named
pub mod Words
