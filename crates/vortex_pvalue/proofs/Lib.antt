pub mod WrappedNumbers
pub mod Multiples
pub mod Ranges
