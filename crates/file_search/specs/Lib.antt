pub mod Laws
pub mod Plans
pub mod Sought
pub mod Words
