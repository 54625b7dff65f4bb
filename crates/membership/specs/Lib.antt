pub mod BloomFilters
pub mod Capacities
pub mod Examples
pub mod Laws
pub mod Words
pub mod Xxh64
