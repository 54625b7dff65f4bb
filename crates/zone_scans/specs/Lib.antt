pub mod Found
pub mod Laws
pub mod Planning
pub mod Ranges
pub mod Roots
pub mod Wanted
