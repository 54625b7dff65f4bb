pub mod Filters
pub mod Laws
pub mod Predicates
pub mod Words
