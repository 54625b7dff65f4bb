pub mod Examples
pub mod Tables
pub mod Words
pub mod Zones
