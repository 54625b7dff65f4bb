pub mod Examples
pub mod Folding
pub mod Items
pub mod Laws
pub mod Words
