pub mod Bits
pub mod Contained
pub mod Rates
pub mod Stripes
