pub mod Contents
pub mod Examples
pub mod Laws
pub mod Tables
pub mod Types
pub mod Words
