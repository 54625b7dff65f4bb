pub mod Cells
pub mod Examples
pub mod Extremes
pub mod Errors
pub mod Encodings
pub mod Items
pub mod Laws
pub mod Words
